-- How a first walk lies in the lines of a floor.
use Rattle.std.specs.Prelude.{ℕ, ◌≡◌, ◌+◌, ◌<◌, ◌≤◌, pos, ◌+ℤ◌, ◌-ℤ◌, List, Contains, take, drop, replicate}
use Rattle.plane_geom.specs.declared.point.Point.{Point}
use Rattle.plane_geom.specs.declared.point.Dir.{Dir}
use Rattle.plane_geom.specs.declared.point.Dir.TheVariants.{East, South, West, North}
use Rattle.plane_geom.specs.declared.point.Way.TheVariants.{Vertical, Horizontal}
use Rattle.plane_geom.specs.declared.floor.Line.{Line}
use Rattle.plane_geom.specs.declared.floor.Floor.{Floor}
use Rattle.plane_geom.specs.Point.{PointIsOnSheet}
use Rattle.plane_geom.specs.Along.{way_of}
use Rattle.plane_geom.specs.Floor.{Holds, IsKept, IsCrossing}
use Rattle.walk_model.specs.Walk.{Walk, point_at, step_at}
use Rattle.walk_model.specs.Legal.{Passes}
use Rattle.walk_model.specs.Cost.{turn}

-- between these two of its points the walk stays on the sheet, each stretch of equal steps lies in a kept line, and each bend and both ends are crossings
pub record GoesAlongLines (floor : Floor) (w : Walk) (from to : ℕ) : Type 0 where
  pub within : (k : ℕ) → from ≤ k → k ≤ to → PointIsOnSheet (point_at w k)
  pub stretch : (k n : ℕ) (d : Dir) → from ≤ k → 0 < n → k + n ≤ to → take n (drop k w.steps) ≡ replicate n d →
      (l : Line) × IsKept floor l × (l.way ≡ way_of d) × Holds l (point_at w k) × Holds l (point_at w (k + n))
  pub bend : (k : ℕ) → from ≤ k → k + 1 < to → 0 < turn (step_at w k) (step_at w (k + 1)) → IsCrossing floor (point_at w (k + 1))
  pub begin : IsCrossing floor (point_at w from)
  pub end : IsCrossing floor (point_at w to)

-- the walk passes some checkpoints up to its point number i, and the others from its point number j on
pub record IsInOneLeg (w : Walk) (from to : ℕ) (via : List Point) (i j : ℕ) : Type 0 where
  pub begun : from ≤ i
  pub ordered : i ≤ j
  pub ended : j ≤ to
  pub count : ℕ
  pub passed : Passes w from i (take count via)
  pub left : Passes w j to (drop count via)

-- the line of n steps from the point in the direction
abbrev pub run_line : Point → Dir → ℕ → Line
run_line p East n = record { way = Horizontal; at = p.y; lo = p.x; hi = p.x +ℤ pos n }
run_line p South n = record { way = Vertical; at = p.x; lo = p.y; hi = p.y +ℤ pos n }
run_line p West n = record { way = Horizontal; at = p.y; lo = p.x -ℤ pos n; hi = p.x }
run_line p North n = record { way = Vertical; at = p.x; lo = p.y -ℤ pos n; hi = p.y }

-- where the walk doubles back between these two of its points, there is a checkpoint
abbrev pub DoublesBackAtCheckpoints : List Point → Walk → ℕ → ℕ → Type 0
DoublesBackAtCheckpoints via w from to =
    (k : ℕ) → from ≤ k → k + 1 < to → turn (step_at w k) (step_at w (k + 1)) ≡ 2 → Contains via (point_at w (k + 1))
