-- Leg by leg, up to the first bend or the first place with more checkpoints passed.
use Rattle.move_model.proofs.Stopping.Stations.{rest_behind, some_station}
use Rattle.move_model.proofs.stations.ways_have_stations.Goals as goal

pub returns : goal.returns
returns c = record { station = λ solids a via x l rest e. some_station solids a via e x l rest; rest = rest_behind }
