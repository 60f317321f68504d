-- The most checkpoints up to a corner.
use Rattle.walk_model.proofs.Checkpoints.Segments.{PassedTo}
use Rattle.walk_model.proofs.line.passed_between.Given as goal

abbrev pub invariant-loop-next : goal.invariant-loop-next
invariant-loop-next l = PassedTo l.points l.rest l.via l.from l.to l.next-index l.at l.walked l.passed
