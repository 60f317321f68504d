-- The segments so far are straight.
use Rattle.route_check.proofs.Segments.Slants.{StraightSoFar}
use Rattle.route_check.proofs.straight.first_slanted.Given as goal

abbrev pub invariant-loop-i : goal.invariant-loop-i
invariant-loop-i l = StraightSoFar l.fn.first l.rest l.i l.from
