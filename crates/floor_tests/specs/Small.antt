-- A floor made of plain numbers.
use Rattle.std.specs.Prelude.{ℕ, ◌+◌, ◌*◌, ◌/◌, ◌%◌, ℤ, pos, List, Option, Some, None, ◌&&◌, cond, filter_map, int_lt, map, take}
use Rattle.std.specs.Int.{int_max, int_min}
use Rattle.plane_geom.specs.declared.point.Point.{Point}
use Rattle.plane_geom.specs.declared.rect.Rect.{Rect}
use Rattle.plane_geom.specs.declared.rect.Solid.{Solid}
use Rattle.plane_geom.specs.declared.floor.Floor.{Floor}
use Rattle.plane_geom.specs.Point.{sheet_end, sheet_start}

-- the number, or the nearest end of the sheet
abbrev pub clamped : ℤ → ℤ
clamped z = int_min (int_max z sheet_start) sheet_end

-- the rectangle of its left, top, right and bottom, each brought onto the sheet
abbrev pub clamped_rect : ℤ × ℤ × ℤ × ℤ → Rect
clamped_rect sides = record { left = clamped sides.0; top = clamped sides.1; right = clamped sides.2; bottom = clamped sides.3 }

-- the rectangle as a solid of node 0, if it has an inside
abbrev pub solid_in : Rect → Option Solid
solid_in r = cond (int_lt r.left r.right && int_lt r.top r.bottom) (Some (record { node = pos 0; rect = r })) None

-- the solid of these sides, if it has an inside on the sheet
abbrev pub solid_of_sides : ℤ × ℤ × ℤ × ℤ → Option Solid
solid_of_sides sides = solid_in (clamped_rect sides)

-- the point of its x and y, each brought onto the sheet
abbrev pub clamped_point : ℤ × ℤ → Point
clamped_point place = record { x = clamped place.0; y = clamped place.1 }

-- the floor of those of the first 256 rectangles that have an inside, and of the first 256 anchors
abbrev pub small_floor : List (ℤ × ℤ × ℤ × ℤ) → List (ℤ × ℤ) → Floor
small_floor rects anchors = record { solids = filter_map solid_of_sides (take 256 rects); anchors = map clamped_point (take 256 anchors) }

-- one of many rectangles that do not touch, in rows of sixteen and of different sizes
abbrev pub tile : ℕ → ℤ × ℤ × ℤ × ℤ
tile n = (pos (40 * (n % 16)), pos (30 * (n / 16)), pos (40 * (n % 16) + (20 + n % 7)), pos (30 * (n / 16) + (15 + n % 5)))
