-- One piece, searched, is all tasks.
use Rattle.std.proofs.Common.{rules, ◌∙◌, length}
use Rattle.par_route.proofs.Joining.{counted_part}
use Rattle.par_route.proofs.Sheet.{solids_on_sheet}
use Rattle.par_route.proofs.routes.route_each.Goals as goal

pub new-requires-2 : goal.new-requires-2
new-requires-2 c = solids_on_sheet c.args.arena.now c.args.solids.now c.args.tasks.now (search rules) c.requires.tasks

pub returns-clause-tally : goal.returns-clause-tally
returns-clause-tally c =
    let many = length c.args.tasks.now in
    c.join.ensures ∙ (rw c.in_ok-answers.ensures.tally (counted_part many c.args.tally.now))
