-- The law `floors_hold_tasks` holds.
use Rattle.scene_model.proofs.ForRouting.Floors.{floors_hold_tasks}
use Rattle.scene_model.proofs.laws.floors_hold_tasks.Goals as goal

pub returns : goal.returns
returns c = floors_hold_tasks
