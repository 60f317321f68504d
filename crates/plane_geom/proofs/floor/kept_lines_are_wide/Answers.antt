-- It runs at the coordinate of its side or anchor.
use Rattle.plane_geom.proofs.KeptLines.{kept_wide}
use Rattle.plane_geom.proofs.floor.kept_lines_are_wide.Goals as goal

pub returns : goal.returns
returns c = λ floor l k. kept_wide floor l k
