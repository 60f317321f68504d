-- The conditions on a line that is given by its first corner and the others. No public clause cites this module.
use Rattle.std.specs.Prelude.{◌≤◌, List, length, All}
use Rattle.plane_geom.specs.declared.point.Point.{Point}
use Rattle.plane_geom.specs.Point.{PointIsOnSheet}
use Rattle.walk_model.specs.Line.{AreStraight}

-- the line from the point through the others has only straight segments, lies on the sheet, and is not too long
pub record IsLineFrom (first : Point) (rest : List Point) : Type 0 where
  pub straight : AreStraight first rest
  pub begin_within : PointIsOnSheet first
  pub within : All PointIsOnSheet rest
  pub few : length rest ≤ 40000000
