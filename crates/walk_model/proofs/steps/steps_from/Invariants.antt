-- The steps that are left are those of the line, and fewer points are.
use Rattle.std.proofs.Common.{length}
use Rattle.walk_model.proofs.Ranking.StepLists.{Same}
use Rattle.walk_model.proofs.steps.steps_from.Given as goal

abbrev pub invariant-loop-stretch : goal.invariant-loop-stretch
invariant-loop-stretch l = Same l.fn.dir l.fn.stretch l.fn.at l.fn.rest l.dir l.stretch l.at l.rest

abbrev pub decreases-loop-stretch : goal.decreases-loop-stretch
decreases-loop-stretch l = length l.rest
