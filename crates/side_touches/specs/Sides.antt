-- The closed sides of solids, and which of them a line touches.
use Rattle.std.specs.Prelude.{◌≡◌, ◌↔◌, ◌≤ℤ◌, Bool, not, ◌&&◌, int_lt, if◌then◌else◌, Option, Some, None, List, AllPairs, Any, Contains}
use Rattle.plane_geom.specs.declared.point.Dir.{Dir}
use Rattle.plane_geom.specs.declared.point.Dir.TheVariants.{East, South, West, North}
use Rattle.plane_geom.specs.declared.rect.Rect.{Rect}
use Rattle.plane_geom.specs.declared.rect.Solid.{Solid}
use Rattle.plane_geom.specs.declared.floor.Line.{Line}
use Rattle.side_touches.specs.declared.extent.Extent.{Extent}
use Rattle.side_touches.specs.declared.side.Side.{Side}
use Rattle.side_touches.specs.declared.side.Sides.{Sides}

-- the closed side of the rectangle from which the rectangle lies in the direction
abbrev pub side_of : Dir → Rect → Side
side_of East r = record { at = r.left; extent = record { lo = r.top; hi = r.bottom } }
side_of South r = record { at = r.top; extent = record { lo = r.left; hi = r.right } }
side_of West r = record { at = r.right; extent = record { lo = r.top; hi = r.bottom } }
side_of North r = record { at = r.bottom; extent = record { lo = r.left; hi = r.right } }

-- the sides are those from which the solids lie in the direction, by rising coordinate
pub record AreSidesTo (side : Dir) (solids : List Solid) (sides : List Side) : Type 0 where
  pub members : (x : Side) → Contains sides x ↔ Any (λ s. side_of side s.rect ≡ x) solids
  pub order : AllPairs (λ a b. a.at ≤ℤ b.at) sides

-- of all the sides those from which the solids lie in the direction
abbrev pub sides_to : Dir → Sides → List Side
sides_to East t = t.east.items
sides_to South t = t.south.items
sides_to West t = t.west.items
sides_to North t = t.north.items

-- the sides of the solids, by directions
abbrev pub AreSides : List Solid → Sides → Type 0
AreSides solids t = (side : Dir) → AreSidesTo side solids (sides_to side t)

-- whether the line, if it runs along the extent, shares a point with it
abbrev pub is_met_by : Line → Extent → Bool
is_met_by l x = not (int_lt x.hi l.lo) && not (int_lt l.hi x.lo)

-- the extent of a side on the whole line of the line, if the line shares a point with it
abbrev pub extent_met : Line → Side → Option Extent
extent_met l s = if is_met_by l s.extent then Some s.extent else None
