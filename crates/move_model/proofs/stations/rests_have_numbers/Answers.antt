-- The stub, the legs in front, and the rest are all steps.
use Rattle.move_model.proofs.Stopping.HeldLegs.{point_of_rest, steps_of_rest, within_rest}
use Rattle.move_model.proofs.stations.rests_have_numbers.Goals as goal

pub returns : goal.returns
returns c = record {
  point = λ solids a task t arena is_task along. point_of_rest solids a arena task t is_task along;
  left = λ solids a task t arena is_task along. steps_of_rest solids a arena task t is_task along;
  within = λ solids a task t arena is_task along. within_rest solids a arena task t is_task along;
}
