-- Points, directions and the sheet on which everything is drawn.
use Rattle.std.specs.Prelude.{◌≡◌, Bool, not, ◌&&◌, ℕ, ◌+◌, ◌⊎◌, ℤ, pos, negsuc, ◌+ℤ◌, ◌-ℤ◌, ◌≤ℤ◌, unsigned_abs, int_lt, if◌then◌else◌}
use Rattle.plane_geom.specs.declared.point.Point.{Point}
use Rattle.plane_geom.specs.declared.point.Dir.{Dir}
use Rattle.plane_geom.specs.declared.point.Dir.TheVariants.{East, South, West, North}

-- the least coordinate of the sheet on which everything is drawn
abbrev pub sheet_start : ℤ
sheet_start = negsuc 1999999999

-- the greatest coordinate of the sheet
abbrev pub sheet_end : ℤ
sheet_end = pos 2000000000

-- a coordinate of the sheet
pub record IsCoordinate (z : ℤ) : Type 0 where
  pub low : sheet_start ≤ℤ z
  pub high : z ≤ℤ sheet_end

-- whether the number is a coordinate of the sheet
abbrev pub is_coordinate : ℤ → Bool
is_coordinate z = not (int_lt z sheet_start) && not (int_lt sheet_end z)

-- a point of the sheet
pub record PointIsOnSheet (p : Point) : Type 0 where
  pub x : IsCoordinate p.x
  pub y : IsCoordinate p.y

-- the segment between the points is vertical or horizontal; it may be a single point
abbrev pub IsStraight : Point → Point → Type 0
IsStraight a b = (a.x ≡ b.x) ⊎ (a.y ≡ b.y)

-- the direction back
abbrev pub opposite : Dir → Dir
opposite East = West
opposite South = North
opposite West = East
opposite North = South

-- the point n unit steps away in the direction
abbrev pub forward : Dir → ℕ → Point → Point
forward East n p = record { x = p.x +ℤ pos n; y = p.y }
forward South n p = record { x = p.x; y = p.y +ℤ pos n }
forward West n p = record { x = p.x -ℤ pos n; y = p.y }
forward North n p = record { x = p.x; y = p.y -ℤ pos n }

-- the number of unit steps from one point to the other
abbrev pub distance : Point → Point → ℕ
distance a b = unsigned_abs (a.x -ℤ b.x) + unsigned_abs (a.y -ℤ b.y)

-- the direction in which a straight segment runs; North where it is a single point
abbrev pub heading : Point → Point → Dir
heading a b = if int_lt a.x b.x then East else (if int_lt b.x a.x then West else (if int_lt a.y b.y then South else North))
