-- The lines and points of the grid of the tests.
use Rattle.std.specs.Prelude.{ℕ, pos}
use Rattle.plane_geom.specs.declared.point.Point.{Point}
use Rattle.plane_geom.specs.declared.point.Way.{Way}
use Rattle.plane_geom.specs.declared.floor.Line.{Line}

abbrev pub grid_line_of : Way → ℕ → Line
grid_line_of way at = record { way = way; at = pos at; lo = pos 0; hi = pos 30 }

abbrev pub grid_point_of : ℕ → ℕ → Point
grid_point_of column row = record { x = pos column; y = pos row }
