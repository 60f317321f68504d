-- The steps and bends up to a corner.
use Rattle.walk_model.specs.Line.{steps_of}
use Rattle.walk_model.proofs.CornerByCorner.Costs.{CostSoFar}
use Rattle.walk_model.proofs.line.cost_of.Given as goal

abbrev pub invariant-loop-next : goal.invariant-loop-next
invariant-loop-next l = CostSoFar (steps_of l.points) l.rest l.next-index l.at l.last l.walked l.bends
