-- At the number of the place.
use Rattle.move_model.proofs.Stopping.HeldLegs.{doubles_at}
use Rattle.move_model.proofs.stations.ways_double_back_at_checkpoints.Goals as goal

pub returns : goal.returns
returns c = λ solids a task t arena is_task first along x p m back h. doubles_at solids a arena task t is_task along first x p m back h
