-- Answers at which mutants of this function are refused.
use Rattle.std.proofs.Common.{rules}
use Rattle.plane_geom.proofs.point.Point.forward.Goals as goal

pub returns-in-West : goal.returns-in-West
returns-in-West c = search rules
