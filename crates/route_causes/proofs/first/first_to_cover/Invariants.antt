-- The point lies in none of the solids so far.
use Rattle.std.proofs.Common.{take}
use Rattle.route_causes.specs.Causes.{LiesFree}
use Rattle.route_causes.proofs.first.first_to_cover.Given as goal

abbrev pub invariant-loop-solid : goal.invariant-loop-solid
invariant-loop-solid l = LiesFree (take l.solid-index l.solids) l.point
