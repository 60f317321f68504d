-- Rectangles: what lies inside them and what meets them.
use Rattle.std.specs.Prelude.{◌≡◌, ℕ, ◌+◌, ◌<◌, ◌⊎◌, ℤ, pos, ◌+ℤ◌, ◌-ℤ◌, ◌*ℤ◌, ◌≤ℤ◌, ◌<ℤ◌, unsigned_abs}
use Rattle.plane_geom.specs.declared.point.Point.{Point}
use Rattle.plane_geom.specs.declared.point.Dir.{Dir}
use Rattle.plane_geom.specs.declared.point.Dir.TheVariants.{East, South, West, North}
use Rattle.plane_geom.specs.declared.rect.Rect.{Rect}
use Rattle.plane_geom.specs.Point.{IsCoordinate, distance, forward}

-- all four sides lie on the sheet
pub record RectIsOnSheet (r : Rect) : Type 0 where
  pub left : IsCoordinate r.left
  pub top : IsCoordinate r.top
  pub right : IsCoordinate r.right
  pub bottom : IsCoordinate r.bottom

-- the rectangle with each side moved out
abbrev pub grown : Rect → ℤ → Rect
grown r by = record { left = r.left -ℤ by; top = r.top -ℤ by; right = r.right +ℤ by; bottom = r.bottom +ℤ by }

-- the place z / q is strictly between the two numbers
abbrev pub IsInside : ℤ → ℤ → ℕ → ℤ → Type 0
IsInside low high q z = ((low *ℤ pos q) <ℤ z) × (z <ℤ (high *ℤ pos q))

-- the place z / q is the first number, the second, or between them
abbrev pub IsWithin : ℤ → ℤ → ℕ → ℤ → Type 0
IsWithin low high q z = ((low *ℤ pos q) ≤ℤ z) × (z ≤ℤ (high *ℤ pos q))

-- the open interval from low to high and the closed one between a and b have a place in common
pub record Overlaps (low high a b : ℤ) : Type 0 where
  pub q : ℕ
  pub z : ℤ
  pub divides : 0 < q
  pub inside : IsInside low high q z
  pub within : IsWithin a b q z ⊎ IsWithin b a q z

-- the closed rectangle with these corners, which is a straight segment where the points are in line, has a point inside the open one
pub record Meets (r : Rect) (a b : Point) : Type 0 where
  pub x : Overlaps r.left r.right a.x b.x
  pub y : Overlaps r.top r.bottom a.y b.y

-- the unit step from the point in the direction has a point inside the open rectangle
abbrev pub StepMeets : Rect → Point → Dir → Type 0
StepMeets r p East = (r.top <ℤ p.y) × (p.y <ℤ r.bottom) × (r.left ≤ℤ p.x) × ((p.x +ℤ pos 1) ≤ℤ r.right)
StepMeets r p South = (r.left <ℤ p.x) × (p.x <ℤ r.right) × (r.top ≤ℤ p.y) × ((p.y +ℤ pos 1) ≤ℤ r.bottom)
StepMeets r p West = (r.top <ℤ p.y) × (p.y <ℤ r.bottom) × (r.left ≤ℤ (p.x -ℤ pos 1)) × (p.x ≤ℤ r.right)
StepMeets r p North = (r.left <ℤ p.x) × (p.x <ℤ r.right) × (r.top ≤ℤ (p.y -ℤ pos 1)) × (p.y ≤ℤ r.bottom)

-- one of the n unit steps from the point in the direction meets the open rectangle
abbrev pub SomeStepMeets : Rect → Point → Dir → ℕ → Type 0
SomeStepMeets r p d n = (k : ℕ) × (k < n) × StepMeets r (forward d k p) d

-- the point lies inside the open rectangle
pub record HasInside (r : Rect) (p : Point) : Type 0 where
  pub x : (r.left <ℤ p.x) × (p.x <ℤ r.right)
  pub y : (r.top <ℤ p.y) × (p.y <ℤ r.bottom)

-- the point lies in the closed rectangle
pub record HasWithin (r : Rect) (p : Point) : Type 0 where
  pub left : r.left ≤ℤ p.x
  pub right : p.x ≤ℤ r.right
  pub top : r.top ≤ℤ p.y
  pub bottom : p.y ≤ℤ r.bottom

-- a number from low to high that lies on the way from z to each number from low to high
pub record IsOnTheWay (low z high number : ℤ) : Type 0 where
  pub from : low ≤ℤ number
  pub to : number ≤ℤ high
  pub between : (other : ℤ) → low ≤ℤ other → other ≤ℤ high →
      unsigned_abs (z -ℤ number) + unsigned_abs (number -ℤ other) ≡ unsigned_abs (z -ℤ other)

-- a point of the closed rectangle that lies on a shortest way from the other point to each point of the rectangle
pub record IsNearestPoint (r : Rect) (p nearest : Point) : Type 0 where
  pub x : IsOnTheWay r.left p.x r.right nearest.x
  pub y : IsOnTheWay r.top p.y r.bottom nearest.y

-- a way from one point through the closed rectangle to the other has this length, and none is shorter
pub record IsLeastThrough (r : Rect) (a b : Point) (length : ℤ) : Type 0 where
  pub through : Point
  pub within : HasWithin r through
  pub reached : length ≡ pos (distance a through + distance through b)
  pub least : (p : Point) → HasWithin r p → length ≤ℤ pos (distance a p + distance p b)
