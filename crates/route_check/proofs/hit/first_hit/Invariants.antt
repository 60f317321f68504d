-- The hit is the first of the solids so far; the limit is its step.
use Rattle.std.proofs.Common.{take}
use Rattle.route_check.proofs.Collisions.Hits.{HitSoFar}
use Rattle.route_check.proofs.hit.first_hit.Given as goal

abbrev pub invariant-loop-solid : goal.invariant-loop-solid
invariant-loop-solid l = HitSoFar (take l.solid-index l.solids) l.start l.end l.first l.rest l.hit l.limit
