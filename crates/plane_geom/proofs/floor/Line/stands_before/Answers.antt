-- Answers at which mutants of this function are refused.
use Rattle.std.proofs.Common.{rules}
use Rattle.plane_geom.proofs.floor.Line.stands_before.Goals as goal

pub returns-in-Vertical-Horizontal : goal.returns-in-Vertical-Horizontal
returns-in-Vertical-Horizontal c = search rules
