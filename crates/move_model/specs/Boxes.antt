-- The distances of points from a rectangle, and the fewest bends of a walk from it to them.
use Rattle.std.specs.Prelude.{ℕ, ◌+◌, ◌==◌, ℤ, if◌then◌else◌}
use Rattle.std.specs.Int.{int_gap}
use Rattle.plane_geom.specs.declared.point.Point.{Point}
use Rattle.plane_geom.specs.declared.point.Dir.{Dir}
use Rattle.plane_geom.specs.declared.point.Dir.TheVariants.{East, South, West, North}
use Rattle.plane_geom.specs.declared.point.Way.{Way}
use Rattle.plane_geom.specs.declared.rect.Rect.{Rect}
use Rattle.plane_geom.specs.Along.{way_of, across}
use Rattle.plane_geom.specs.Floor.{first_side, last_side}
use Rattle.walk_model.specs.Cost.{turn}

-- the distance of z from the range: below `low`, or above `high`
abbrev pub outside : ℤ → ℤ → ℤ → ℕ
outside low z high = int_gap z low + int_gap high z

-- the least number of steps from the closed rectangle to the point
abbrev pub distance_from : Rect → Point → ℕ
distance_from r p = outside r.left p.x r.right + outside r.top p.y r.bottom

-- the distance of the point to a side of the rectangle, for one who leaves it along lines of the way
abbrev pub beside : Way → Rect → Point → ℕ
beside way r p = outside (first_side way r) (across way p) (last_side way r)

-- how far the point lies behind the rectangle, for one who leaves it in the direction
abbrev pub behind_by : Dir → Rect → Point → ℕ
behind_by East r p = int_gap p.x r.left
behind_by South r p = int_gap p.y r.top
behind_by West r p = int_gap r.right p.x
behind_by North r p = int_gap r.bottom p.y

-- the fewest bends of a walk that leaves the rectangle in the direction `from` and arrives at the point with the heading
abbrev pub fewest_bends : Dir → Rect → Point → Dir → ℕ
fewest_bends from r p heading =
    if turn from heading == 0 then (if behind_by from r p == 0 then (if beside (way_of from) r p == 0 then 0 else 2) else 4)
    else if turn from heading == 1 then (if behind_by from r p == 0 then (if behind_by heading r p == 0 then 1 else 3) else 3)
    else 2
