-- Walks: a start point and unit steps.
use Rattle.std.specs.Prelude.{ℕ, List, [], ◌∷◌, take, replicate, slice_index_or}
use Rattle.plane_geom.specs.declared.point.Point.{Point}
use Rattle.plane_geom.specs.declared.point.Dir.{Dir}
use Rattle.plane_geom.specs.declared.point.Dir.TheVariants.{East}
use Rattle.plane_geom.specs.declared.rect.Rect.{Rect}
use Rattle.plane_geom.specs.Point.{forward}
use Rattle.plane_geom.specs.Rect.{StepMeets}

-- a start point and the unit steps from there
pub record Walk : Type 0 where
  pub start : Point
  pub steps : List Dir

-- the point to which the steps lead from the point
abbrev pub after : Point → List Dir → Point
after p [] = p
after p (d ∷ ds) = after (forward d 1 p) ds

-- the point of the walk after its first k steps
abbrev pub point_at : Walk → ℕ → Point
point_at w k = after w.start (take k w.steps)

-- the last point of the walk
abbrev pub end_of : Walk → Point
end_of w = after w.start w.steps

-- the direction of step k, counted from 0
abbrev pub step_at : Walk → ℕ → Dir
step_at w k = slice_index_or w.steps k East

-- step k has a point inside the open rectangle
abbrev pub MeetsAt : Rect → Walk → ℕ → Type 0
MeetsAt r w k = StepMeets r (point_at w k) (step_at w k)

-- the walk of n steps in one direction
abbrev pub straight_walk : Point → Dir → ℕ → Walk
straight_walk p d n = record { start = p; steps = replicate n d }
