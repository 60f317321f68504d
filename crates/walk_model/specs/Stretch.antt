-- Equal steps in a row.
use Rattle.std.specs.Prelude.{ℕ, ◌≡◌, ◌+◌, ◌-◌, ◌≤◌}
use Rattle.plane_geom.specs.declared.point.Point.{Point}
use Rattle.plane_geom.specs.Point.{distance, forward, heading}
use Rattle.walk_model.specs.declared.stretch.Stretch.{Stretch}
use Rattle.walk_model.specs.Walk.{Walk, point_at}

-- the stretch leads from the point p, which has this number, to the point q
pub record IsBetween (s : Stretch) (n : ℕ) (p q : Point) : Type 0 where
  pub number : s.number ≡ n
  pub start : s.start ≡ p
  pub dir : s.dir ≡ heading p q
  pub steps : s.steps ≡ distance p q

-- the point has the number k on the stretch
pub record IsPointOf (s : Stretch) (k : ℕ) (p : Point) : Type 0 where
  pub begun : s.number ≤ k
  pub within : k ≤ s.number + s.steps
  pub at : forward s.dir (k - s.number) s.start ≡ p

-- the points of the stretch are those of the walk with the same numbers
pub record GoesAlong (w : Walk) (s : Stretch) : Type 0 where
  pub at : (k : ℕ) → s.number ≤ k → k ≤ s.number + s.steps → IsPointOf s k (point_at w k)
