-- Ways and directions: the coordinates of a point across and along lines, and how far it is in a direction.
use Rattle.std.specs.Prelude.{ℤ, pos, ◌-ℤ◌, ◌<ℤ◌}
use Rattle.plane_geom.specs.declared.point.Point.{Point}
use Rattle.plane_geom.specs.declared.point.Dir.{Dir}
use Rattle.plane_geom.specs.declared.point.Dir.TheVariants.{East, South, West, North}
use Rattle.plane_geom.specs.declared.point.Way.{Way}
use Rattle.plane_geom.specs.declared.point.Way.TheVariants.{Vertical, Horizontal}

-- the way of the lines along which a direction runs
abbrev pub way_of : Dir → Way
way_of East = Horizontal
way_of South = Vertical
way_of West = Horizontal
way_of North = Vertical

-- the direction in which the coordinates rise along a line
abbrev pub rising : Way → Dir
rising Vertical = South
rising Horizontal = East

-- the coordinate of the line of this way through the point
abbrev pub across : Way → Point → ℤ
across Vertical p = p.x
across Horizontal p = p.y

-- the coordinate of the point along that line
abbrev pub along : Way → Point → ℤ
along Vertical p = p.y
along Horizontal p = p.x

-- the coordinate of the point that rises in the direction
abbrev pub reach : Dir → Point → ℤ
reach East p = p.x
reach South p = p.y
reach West p = pos 0 -ℤ p.x
reach North p = pos 0 -ℤ p.y

-- the second point is further in the direction than the first
abbrev pub IsFurther : Dir → Point → Point → Type 0
IsFurther d p q = reach d p <ℤ reach d q
