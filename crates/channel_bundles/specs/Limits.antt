-- How far the runs of a phase may move.
use Rattle.std.specs.Prelude.{◌≡◌, ◌↔◌, ℕ, ◌+◌, ◌-◌, ◌<◌, ℤ, ◌≤ℤ◌, List, length, All, EachIndex}
use Rattle.plane_geom.specs.declared.point.Point.{Point}
use Rattle.plane_geom.specs.declared.point.Dir.{Dir}
use Rattle.plane_geom.specs.declared.point.Dir.TheVariants.{East, South, West, North}
use Rattle.plane_geom.specs.declared.point.Way.{Way}
use Rattle.plane_geom.specs.declared.point.Way.TheVariants.{Vertical, Horizontal}
use Rattle.plane_geom.specs.declared.rect.Rect.{Rect}
use Rattle.plane_geom.specs.declared.rect.Solid.{Solid}
use Rattle.plane_geom.specs.Along.{across}
use Rattle.plane_geom.specs.Point.{IsCoordinate, opposite}
use Rattle.plane_geom.specs.Rect.{Overlaps}
use Rattle.segment_order.specs.Run.{run_at}
use Rattle.channel_bundles.specs.declared.route.PhaseRoute.{PhaseRoute}
use Rattle.channel_bundles.specs.Route.{IsFixed, HasToReach, HasToLeave}

-- the number is from low to high
abbrev pub IsFromTo : ℤ → ℤ → ℤ → Type 0
IsFromTo low high z = (low ≤ℤ z) × (z ≤ℤ high)

-- one who travels in the direction has reached the coordinate c at z
abbrev pub IsReached : Dir → ℤ → ℤ → Type 0
IsReached East c z = c ≤ℤ z
IsReached South c z = c ≤ℤ z
IsReached West c z = z ≤ℤ c
IsReached North c z = z ≤ℤ c

-- the closed rectangle that the run sweeps on its way to the coordinate has a point inside the open one
abbrev pub Sweeps : Way → Rect → ℤ → ℤ → ℤ → ℤ → Type 0
Sweeps Vertical rect at z lo hi = Overlaps rect.left rect.right at z × Overlaps rect.top rect.bottom lo hi
Sweeps Horizontal rect at z lo hi = Overlaps rect.top rect.bottom at z × Overlaps rect.left rect.right lo hi

-- the run with this index may be at the coordinate: it sweeps no solid on the way, and the runs before and after it still reach the points they have to
pub record MayStandAt (solids : List Solid) (route : PhaseRoute) (k : ℕ) (z : ℤ) : Type 0 where
  pub within : IsCoordinate z
  pub free : All (λ s. let r = run_at route.runs.items k in Sweeps r.way s.rect r.at z r.lo r.hi → ⊥) solids
  pub before : (p : Point) → 0 < k → HasToReach route (k - 1) p → IsReached (run_at route.runs.items (k - 1)).heading (across (run_at route.runs.items k).way p) z
  pub after : (p : Point) → k + 1 < length route.runs.items → HasToLeave route (k + 1) p → IsReached (opposite (run_at route.runs.items (k + 1)).heading) (across (run_at route.runs.items k).way p) z

-- each movable run of the way may stay at its coordinate
abbrev pub MayMove : List Solid → Way → PhaseRoute → Type 0
MayMove solids way route = EachIndex route.runs.items (λ k. (run_at route.runs.items k).way ≡ way → (IsFixed route k → ⊥) → MayStandAt solids route k (run_at route.runs.items k).at)

-- the coordinates at which the run may be are those from low to high; a fixed run stays
pub record HasLimits (solids : List Solid) (route : PhaseRoute) (k : ℕ) (low high : ℤ) : Type 0 where
  pub fixed : IsFixed route k → (low ≡ (run_at route.runs.items k).at) × (high ≡ (run_at route.runs.items k).at)
  pub movable : (IsFixed route k → ⊥) → (z : ℤ) → MayStandAt solids route k z ↔ ((low ≤ℤ z) × (z ≤ℤ high))
