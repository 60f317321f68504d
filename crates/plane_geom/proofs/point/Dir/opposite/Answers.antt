-- Answers at which mutants of this function are refused.
use Rattle.std.proofs.Common.{rules}
use Rattle.plane_geom.proofs.point.Dir.opposite.Goals as goal

pub returns-in-East : goal.returns-in-East
returns-in-East c = search rules
