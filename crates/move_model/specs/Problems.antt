-- The input of a search for the first walk of a task.
use Rattle.std.specs.Prelude.{◌≡◌, List}
use Rattle.plane_geom.specs.declared.floor.Floor.{Floor}
use Rattle.plane_geom.specs.declared.rect.Solid.{Solid}
use Rattle.plane_geom.specs.Floor.{IsFloor}
use Rattle.line_arena.specs.Arena.{Arena}
use Rattle.line_arena.specs.Stands.{StandsFor}
use Rattle.walk_model.specs.declared.task.Task.{Task}
use Rattle.walk_model.specs.Floors.{IsFloorOf}
use Rattle.walk_model.specs.Legal.{IsTask}

-- the arena represents a floor of the task, within the limits, and these are the floor's solids
pub record IsProblem (floor : Floor) (a : Arena) (solids : List Solid) (task : Task) : Type 0 where
  pub same_solids : floor.solids ≡ solids
  pub stands : StandsFor floor a
  pub is_floor : IsFloor floor
  pub is_task : IsTask task
  pub is_floor_of : IsFloorOf floor task
