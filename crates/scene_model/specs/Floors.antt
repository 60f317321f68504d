-- The floor of a scene as routing uses it.
use Rattle.std.specs.Prelude.{Contains}
use Rattle.plane_geom.specs.Floor.{IsFloor}
use Rattle.walk_model.specs.Floors.{IsFloorOf, IsTaskOn}
use Rattle.scene_model.specs.declared.edge.Edge.{Edge}
use Rattle.scene_model.specs.Scene.{Scene, connectors}
use Rattle.scene_model.specs.Valid.{IsValid}
use Rattle.scene_model.specs.Routing.{solids, floor_of, task_of}

-- a graph can be built of the floor of a valid scene
abbrev pub FloorsFit : Type 0
FloorsFit = (s : Scene) → IsValid s → IsFloor (floor_of s)

-- a search accepts the task of a connector with the scene's solids, and the scene's floor is a floor of it
pub record HoldsTask (s : Scene) (e : Edge) : Type 0 where
  pub task : IsTaskOn (solids s) (task_of s e)
  pub floor : IsFloorOf (floor_of s) (task_of s e)

-- this holds for each connector of a valid scene
abbrev pub FloorsHoldTasks : Type 0
FloorsHoldTasks = (s : Scene) (e : Edge) → IsValid s → Contains (connectors s) e → HoldsTask s e
