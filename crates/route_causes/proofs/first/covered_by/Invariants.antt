-- The checkpoints so far lie in no solid.
use Rattle.std.proofs.Common.{take, All}
use Rattle.route_causes.specs.Causes.{LiesFree}
use Rattle.route_causes.proofs.first.covered_by.Given as goal

abbrev pub invariant-loop-index : goal.invariant-loop-index
invariant-loop-index l = All (LiesFree l.solids) (take l.index l.via)
