-- The runs and the sum of run coordinates up to a corner.
use Rattle.walk_model.proofs.CornerByCorner.Shapes.{ShapeSoFar}
use Rattle.walk_model.proofs.order.shape_of.Given as goal

abbrev pub invariant-loop-next : goal.invariant-loop-next
invariant-loop-next l = ShapeSoFar l.points l.rest l.next-index l.at l.last l.shape.runs l.shape.lean
