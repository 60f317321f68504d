-- Arguments that calls accept make a floor of a task.
use Rattle.plane_geom.specs.declared.floor.Floor.{Floor}
use Rattle.plane_geom.specs.Floor.{IsFloor}
use Rattle.walk_model.specs.declared.task.Task.{Task}
use Rattle.walk_model.specs.Floors.{IsTaskOn, HasAnchorsOf, IsFloorOf}

pub floor_of_task : (floor : Floor) (task : Task) → IsFloor floor → IsTaskOn floor.solids task → HasAnchorsOf floor task → IsFloorOf floor task
floor_of_task floor task is_floor on anchors = record { solids = λ k s inside. (is_floor.solids k s inside).on_sheet; anchors = anchors; outside = on.ends }
