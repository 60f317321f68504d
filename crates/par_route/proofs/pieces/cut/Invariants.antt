-- The pieces so far are cut, and the rest is still to be cut.
use Rattle.par_route.proofs.Cutting.{AreCutSoFar}
use Rattle.par_route.proofs.pieces.cut.Given as goal

abbrev pub invariant-loop-before : goal.invariant-loop-before
invariant-loop-before g l = AreCutSoFar l.items l.rest l.count l.before l.pieces.items
