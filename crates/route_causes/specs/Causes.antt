-- The boxes that close the ends of a connector and cover its checkpoints, and the cause that it has no route.
use Rattle.std.specs.Prelude.{ℕ, ◌≡◌, ◌≢◌, ◌+◌, ℤ, Some, IsSomeAnd, List, All, take, slice_get}
use Rattle.plane_geom.specs.declared.point.Point.{Point}
use Rattle.plane_geom.specs.declared.rect.Solid.{Solid}
use Rattle.plane_geom.specs.Rect.{HasInside, Meets}
use Rattle.walk_model.specs.declared.task.Choice.{Choice}
use Rattle.walk_model.specs.declared.task.Task.{Task}
use Rattle.move_model.specs.Places.{HasFreeStub}
use Rattle.route_causes.specs.declared.cause.Cause.{Cause}
use Rattle.route_causes.specs.declared.cause.Cause.TheVariants.{ClosedEnd, CoveredCheckpoint, Apart}
use Rattle.route_causes.specs.declared.cause.End.TheVariants.{Source, Target}

-- the first of the solids with the property is that of the node
pub record IsFirstWith (P : Solid → Type 0) (solids : List Solid) (node : ℤ) : Type 0 where
  pub place : ℕ
  pub solid : Solid
  pub at_place : slice_get solids place ≡ Some solid
  pub holds : P solid
  pub none_before : All (λ s. P s → ⊥) (take place solids)
  pub of_node : solid.node ≡ node

-- the solid is of another node, and the stub of the choice meets it
abbrev pub Closes : Choice → Solid → Type 0
Closes c s = (s.node ≢ c.node) × Meets s.rect c.pin c.port

-- no stub of the end is free, and the first solid that closes the first stub is that of the node
pub record IsClosedBy (solids : List Solid) (choices : List Choice) (node : ℤ) : Type 0 where
  pub none_free : All (λ c. HasFreeStub solids c → ⊥) choices
  pub first : IsSomeAnd (slice_get choices 0) (λ c. IsFirstWith (Closes c) solids node)

-- the end is not closed
abbrev pub IsOpen : List Solid → List Choice → Type 0
IsOpen solids choices = (node : ℤ) → IsClosedBy solids choices node → ⊥

-- the point lies inside no solid
abbrev pub LiesFree : List Solid → Point → Type 0
LiesFree solids p = All (λ s. HasInside s.rect p → ⊥) solids

-- the checkpoint at the place, counted from 1, is the first that lies inside a solid, and the first such solid is that of the node
pub record IsCoveredBy (solids : List Solid) (via : List Point) (place : ℕ) (node : ℤ) : Type 0 where
  pub before : ℕ
  pub counted : place ≡ before + 1
  pub free_before : All (LiesFree solids) (take before via)
  pub covered : IsSomeAnd (slice_get via before) (λ p. IsFirstWith (λ s. HasInside s.rect p) solids node)

-- the cause is the first of these: the source is closed, the target is closed, a checkpoint is covered; else it is that these lie apart
abbrev pub IsCause : List Solid → Task → Cause → Type 0
IsCause solids task (ClosedEnd Source node) = IsClosedBy solids task.starts node
IsCause solids task (ClosedEnd Target node) = IsOpen solids task.starts × IsClosedBy solids task.ends node
IsCause solids task (CoveredCheckpoint place node) = IsOpen solids task.starts × IsOpen solids task.ends × IsCoveredBy solids task.via place node
IsCause solids task Apart = IsOpen solids task.starts × IsOpen solids task.ends × All (LiesFree solids) task.via
