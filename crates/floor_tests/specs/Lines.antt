-- The conditions that the tests of arenas check before they add lines and crossings.
use Rattle.std.specs.Prelude.{◌≡◌, ◌≤ℤ◌}
use Rattle.plane_geom.specs.declared.point.Way.TheVariants.{Vertical, Horizontal}
use Rattle.plane_geom.specs.declared.point.Point.{Point}
use Rattle.plane_geom.specs.declared.floor.Line.{Line}

-- the two are pieces of one whole line that share a point
pub record Overlap (l m : Line) : Type 0 where
  pub way : l.way ≡ m.way
  pub at : l.at ≡ m.at
  pub from : l.lo ≤ℤ m.hi
  pub to : m.lo ≤ℤ l.hi

-- a vertical and a horizontal line that share a point
pub record Cross (down across : Line) : Type 0 where
  pub down_runs : down.way ≡ Vertical
  pub across_runs : across.way ≡ Horizontal
  pub down_from : down.lo ≤ℤ across.at
  pub down_to : across.at ≤ℤ down.hi
  pub across_from : across.lo ≤ℤ down.at
  pub across_to : down.at ≤ℤ across.hi

-- the point where the whole lines meet
abbrev pub point_of : Line → Line → Point
point_of down across = record { x = down.at; y = across.at }
