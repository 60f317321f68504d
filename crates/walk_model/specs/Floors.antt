-- The relation of a task to a floor and the solids on it.
use Rattle.std.specs.Prelude.{◌≡◌, List, All, Contains}
use Rattle.plane_geom.specs.declared.floor.Floor.{Floor}
use Rattle.plane_geom.specs.declared.rect.Solid.{Solid}
use Rattle.plane_geom.specs.Rect.{RectIsOnSheet, HasInside}
use Rattle.walk_model.specs.declared.task.Choice.{Choice}
use Rattle.walk_model.specs.declared.task.Task.{Task}
use Rattle.walk_model.specs.Legal.{IsTask}

-- the port of the choice does not lie inside a solid of its own node
abbrev pub IsOutside : List Solid → Choice → Type 0
IsOutside solids c = All (λ s. s.node ≡ c.node → HasInside s.rect c.port → ⊥) solids

-- a task that calls accept with these solids: no port lies inside a solid of its own node
pub record IsTaskOn (solids : List Solid) (task : Task) : Type 0 where
  pub is_task : IsTask task
  pub starts : All (IsOutside solids) task.starts
  pub ends : All (IsOutside solids) task.ends

-- the task's ports and checkpoints are anchors of the floor, which may have others
pub record HasAnchorsOf (floor : Floor) (task : Task) : Type 0 where
  pub starts : All (λ c. Contains floor.anchors c.port) task.starts
  pub ends : All (λ c. Contains floor.anchors c.port) task.ends
  pub via : All (Contains floor.anchors) task.via

-- a floor of the task: its solids lie on the sheet, the task's ports and checkpoints are anchors, and no end port lies inside a solid of its own node
pub record IsFloorOf (floor : Floor) (task : Task) : Type 0 where
  pub solids : All (λ s. RectIsOnSheet s.rect) floor.solids
  pub anchors : HasAnchorsOf floor task
  pub outside : All (IsOutside floor.solids) task.ends
