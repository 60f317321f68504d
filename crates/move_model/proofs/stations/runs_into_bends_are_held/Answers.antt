-- The straight legs that end at the bend.
use Rattle.move_model.proofs.Stopping.WayRuns.{run_into_turn}
use Rattle.move_model.proofs.stations.runs_into_bends_are_held.Goals as goal

pub returns : goal.returns
returns c = λ solids a task t arena is_task first along. run_into_turn solids a arena task t along is_task first
