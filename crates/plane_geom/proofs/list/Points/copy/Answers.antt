-- Answers at which mutants of this function are refused.
use Rattle.std.proofs.Common.{rules}
use Rattle.plane_geom.proofs.list.Points.copy.Goals as goal

pub returns : goal.returns
returns c = search rules
