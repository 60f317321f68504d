-- One ending more, or none for a choice that has none.
use Rattle.std.proofs.Common.{◌+◌, List, subst, sym, refl}
use Rattle.search_problem.specs.Ends.{AreEndings}
use Rattle.search_problem.specs.declared.ends.Ending.{Ending}
use Rattle.search_problem.proofs.Choices.{endings_more, endings_none}
use Rattle.search_problem.proofs.ends.push_ending.Goals as goal

pub returns-in_ok-push : goal.returns-in_ok-push
returns-in_ok-push c =
    let more = endings_more c.args.sorted.now.solids.items c.args.arena.now c.args.task.now c.args.number c.args.endings.now.items c.requires.endings c.args.end c.requires.number
    c.in-Some.ending c.in-Some.ensures.number c.in-Some.ensures.ending in
    subst (λ (es : List Ending). AreEndings c.args.sorted.now.solids.items c.args.arena.now c.args.task.now (c.args.number + 1) es) (sym c.in_ok-push.ensures.items) more

pub returns-in_default : goal.returns-in_default
returns-in_default c =
    endings_none c.args.sorted.now.solids.items c.args.arena.now c.args.task.now c.args.number c.args.endings.now.items c.requires.endings c.args.end c.requires.number
    (c.in_default.ensures.none refl)
