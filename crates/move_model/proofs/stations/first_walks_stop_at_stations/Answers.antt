-- By what the way does after the straight legs.
use Rattle.move_model.proofs.Stopping.Stops.{next_stop}
use Rattle.move_model.proofs.stations.first_walks_stop_at_stations.Goals as goal

pub returns : goal.returns
returns c = λ solids a task t arena is_task first along. next_stop solids a arena task t is_task first along
