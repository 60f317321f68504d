-- Lines, floors, free pieces, kept lines and crossings.
use Rattle.std.specs.Prelude.{◌≡◌, ◌⊎◌, ◌≤◌, ℤ, ◌≤ℤ◌, ◌<ℤ◌, List, Any, All, Contains, length}
use Rattle.plane_geom.specs.declared.point.Point.{Point}
use Rattle.plane_geom.specs.declared.point.Way.{Way}
use Rattle.plane_geom.specs.declared.point.Way.TheVariants.{Vertical, Horizontal}
use Rattle.plane_geom.specs.declared.rect.Rect.{Rect}
use Rattle.plane_geom.specs.declared.rect.Solid.{Solid}
use Rattle.plane_geom.specs.declared.floor.Line.{Line}
use Rattle.plane_geom.specs.declared.floor.Floor.{Floor}
use Rattle.plane_geom.specs.Point.{IsCoordinate, PointIsOnSheet}
use Rattle.plane_geom.specs.Along.{across}
use Rattle.plane_geom.specs.Rect.{RectIsOnSheet, Meets}

-- the point at z on the whole line of this way at this coordinate
abbrev pub point_on : Way → ℤ → ℤ → Point
point_on Vertical at z = record { x = at; y = z }
point_on Horizontal at z = record { x = z; y = at }

-- the two ends of a line
abbrev pub first_point : Line → Point
first_point l = point_on l.way l.at l.lo

abbrev pub last_point : Line → Point
last_point l = point_on l.way l.at l.hi

-- the point lies on the line
pub record Holds (l : Line) (p : Point) : Type 0 where
  pub along : ℤ
  pub from : l.lo ≤ℤ along
  pub to : along ≤ℤ l.hi
  pub here : p ≡ point_on l.way l.at along

-- the two lines are pieces of the same whole line
pub record AreOnOneWholeLine (l m : Line) : Type 0 where
  pub way : l.way ≡ m.way
  pub at : l.at ≡ m.at

-- a piece of a whole line within the sheet, with no point inside a solid; it may be a single point
pub record IsFreePiece (floor : Floor) (l : Line) : Type 0 where
  pub at : IsCoordinate l.at
  pub lo : IsCoordinate l.lo
  pub hi : IsCoordinate l.hi
  pub ordered : l.lo ≤ℤ l.hi
  pub free : All (λ s. Meets s.rect (first_point l) (last_point l) → ⊥) floor.solids

-- a free piece that lies in no other
pub record IsLongestFreePiece (floor : Floor) (l : Line) : Type 0 where
  pub piece : IsFreePiece floor l
  pub longest : (m : Line) → IsFreePiece floor m → AreOnOneWholeLine l m → m.lo ≤ℤ l.lo → l.hi ≤ℤ m.hi → m ≡ l

-- the whole line at the coordinate has a closed side of the rectangle on it, from the first number to the second
abbrev pub SideOn : Rect → Way → ℤ → ℤ → ℤ → Type 0
SideOn r Vertical at lo hi = ((r.left ≡ at) ⊎ (r.right ≡ at)) × (r.top ≡ lo) × (r.bottom ≡ hi)
SideOn r Horizontal at lo hi = ((r.top ≡ at) ⊎ (r.bottom ≡ at)) × (r.left ≡ lo) × (r.right ≡ hi)

-- the line shares a point with a closed side of the rectangle that lies on its whole line
abbrev pub SharesSide : Line → Rect → Type 0
SharesSide l r = (lo : ℤ) × (hi : ℤ) × SideOn r l.way l.at lo hi × (l.lo ≤ℤ hi) × (lo ≤ℤ l.hi)

-- a longest free piece that has some length and shares a point with a side on its whole line, or that holds an anchor
pub record IsKept (floor : Floor) (l : Line) : Type 0 where
  pub longest : IsLongestFreePiece floor l
  pub reason : ((l.lo <ℤ l.hi) × Any (λ s. SharesSide l s.rect) floor.solids) ⊎ Any (Holds l) floor.anchors

-- the coordinates at which the two sides of the rectangle run that lie this way
abbrev pub first_side : Way → Rect → ℤ
first_side Vertical r = r.left
first_side Horizontal r = r.top

abbrev pub last_side : Way → Rect → ℤ
last_side Vertical r = r.right
last_side Horizontal r = r.bottom

-- the coordinate at which the line runs is that of a side of a solid that lies its way, or that of an anchor
abbrev pub RunsAtMark : Floor → Line → Type 0
RunsAtMark floor l =
    Any (λ s. (first_side l.way s.rect ≡ l.at) ⊎ (last_side l.way s.rect ≡ l.at)) floor.solids
    ⊎ Any (λ p. across l.way p ≡ l.at) floor.anchors

-- a longest free piece of the whole line of a side or of an anchor, wherever on that line it lies
pub record IsWide (floor : Floor) (l : Line) : Type 0 where
  pub longest : IsLongestFreePiece floor l
  pub mark : RunsAtMark floor l

-- a point that lies on a vertical and on a horizontal kept line
pub record IsCrossing (floor : Floor) (p : Point) : Type 0 where
  pub vertical : Line
  pub horizontal : Line
  pub is_vertical : vertical.way ≡ Vertical
  pub is_horizontal : horizontal.way ≡ Horizontal
  pub vertical_kept : IsKept floor vertical
  pub horizontal_kept : IsKept floor horizontal
  pub on_vertical : Holds vertical p
  pub on_horizontal : Holds horizontal p

-- a rectangle on the sheet that has an inside
pub record IsSolid (s : Solid) : Type 0 where
  pub on_sheet : RectIsOnSheet s.rect
  pub wide : s.rect.left <ℤ s.rect.right
  pub high : s.rect.top <ℤ s.rect.bottom

-- the coordinates include those of all sides that lie this way, and those across of all anchors
pub record HasCoordinates (floor : Floor) (way : Way) (coordinates : List ℤ) : Type 0 where
  pub first_sides : All (λ s. Contains coordinates (first_side way s.rect)) floor.solids
  pub last_sides : All (λ s. Contains coordinates (last_side way s.rect)) floor.solids
  pub anchors : All (λ p. Contains coordinates (across way p)) floor.anchors

-- a floor that calls accept: on the sheet, with at most 256 solids, and with lines at no more than 1280 coordinates each way
pub record IsFloor (floor : Floor) : Type 0 where
  pub solids : All IsSolid floor.solids
  pub anchors : All PointIsOnSheet floor.anchors
  pub few : length floor.solids ≤ 256
  pub coordinates : (way : Way) → (zs : List ℤ) × (length zs ≤ 1280) × HasCoordinates floor way zs
