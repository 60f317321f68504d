-- The order of what is left is the order of all, and fewer steps are left.
use Rattle.std.proofs.Common.{length}
use Rattle.walk_model.specs.RemainingSteps.{remaining_steps}
use Rattle.walk_model.proofs.Ranking.StepOrder.{SameOrder}
use Rattle.walk_model.proofs.steps.compare_remaining.Given as goal

abbrev pub invariant-loop-a : goal.invariant-loop-a
invariant-loop-a l = SameOrder l.initial.a l.initial.b l.a l.b

abbrev pub decreases-loop-a : goal.decreases-loop-a
decreases-loop-a l = length (remaining_steps l.a)
