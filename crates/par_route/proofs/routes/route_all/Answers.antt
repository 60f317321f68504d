-- Where there is a task, its floor's solids lie on the sheet.
use Rattle.std.proofs.Common.{rules}
use Rattle.par_route.proofs.Sheet.{solids_on_sheet}
use Rattle.par_route.proofs.routes.route_all.Goals as goal

pub new-requires-2 : goal.new-requires-2
new-requires-2 g c = solids_on_sheet c.args.arena.now c.args.solids.now c.args.tasks.now (search rules) c.requires.tasks
