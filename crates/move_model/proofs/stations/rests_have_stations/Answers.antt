-- Along the legs, forwards and backwards.
use Rattle.move_model.proofs.Stopping.WayRuns.{next_station, rest_no_more, run_into}
use Rattle.move_model.proofs.stations.rests_have_stations.Goals as goal

pub returns : goal.returns
returns c = record {
  none = λ solids a task t arena along. rest_no_more solids a arena task t along;
  next = λ solids a task t arena along. next_station solids a arena task t along;
  run = λ solids a task t arena along. run_into solids a arena task t along;
}
