-- Answers at which mutants of this function are refused.
use Rattle.std.proofs.Common.{rules}
use Rattle.plane_geom.proofs.point.Point.across.Goals as goal

pub returns-in-Vertical : goal.returns-in-Vertical
returns-in-Vertical c = search rules
