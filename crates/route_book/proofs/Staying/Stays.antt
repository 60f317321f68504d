-- What a change of solids may do to a first walk.
use Rattle.std.specs.Prelude.{◌≡◌, ℕ, ◌+◌, ◌<◌, ◌≤◌, ◌⊎◌, List, [], ◌∷◌, ◌++◌, Some, slice_get, Contains, length}
use Rattle.plane_geom.specs.declared.point.Point.{Point}
use Rattle.plane_geom.specs.declared.rect.Rect.{Rect}
use Rattle.plane_geom.specs.declared.rect.Solid.{Solid}
use Rattle.plane_geom.specs.Rect.{HasWithin}
use Rattle.walk_model.specs.declared.task.Choice.{Choice}
use Rattle.walk_model.specs.declared.task.Task.{Task}
use Rattle.walk_model.specs.Walk.{Walk, MeetsAt}
use Rattle.walk_model.specs.Order.{Triple, triple_cost}
use Rattle.scene_model.specs.Stale.{IsLengthBy}

-- within the cost a way from the pin of a start choice through the checkpoints to that of an end choice may touch the closed rectangle
pub record IsReachedBy (task : Task) (r : Rect) (cost : ℕ) : Type 0 where
  pub start : Choice
  pub end : Choice
  pub i : ℕ
  pub j : ℕ
  pub is_start : slice_get task.starts i ≡ Some start
  pub is_end : slice_get task.ends j ≡ Some end
  pub by : Point
  pub within : HasWithin r by
  pub way : ℕ
  pub is_way : IsLengthBy by start.pin (task.via ++ end.pin ∷ []) way
  pub reached : start.cost + end.cost + way ≤ cost

-- no step of the walk meets the rectangle
abbrev pub MeetsNone : Rect → Walk → Type 0
MeetsNone r w = (k : ℕ) → k < length w.steps → MeetsAt r w k → ⊥

-- each solid of the first list is in the second, or the fact holds of it
abbrev pub StandsOr : (Solid → Type 0) → List Solid → List Solid → Type 0
StandsOr P solids others = (s : Solid) → Contains solids s → Contains others s ⊎ P s

-- a walk meets no added solid, and costs less than any way past a removed one
pub record StaysFirst (old new : List Solid) (task : Task) (t : Triple) : Type 0 where
  pub added : StandsOr (λ s. MeetsNone s.rect t.walk) new old
  pub removed : StandsOr (λ s. IsReachedBy task s.rect (triple_cost task t) → ⊥) old new
