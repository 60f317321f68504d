-- The answers so far are those of the tasks so far.
use Rattle.std.proofs.Common.{◌≡◌, take}
use Rattle.line_arena.specs.Count.{counted_by}
use Rattle.par_route.specs.Routes.{AreAnswers}
use Rattle.par_route.proofs.pieces.search_passed.Given as goal

abbrev pub invariant-loop-task : goal.invariant-loop-task
invariant-loop-task l =
    (l.finder.arena.now ≡ l.arena) × (l.finder.solids.now ≡ l.solids)
    × AreAnswers l.solids (take l.task-index l.tasks) l.answers.items
    × (l.tally ≡ counted_by l.task-index 0)
