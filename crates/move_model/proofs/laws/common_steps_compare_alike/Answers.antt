-- Step by step.
use Rattle.move_model.proofs.GoingOn.Rivals.{common_front}
use Rattle.move_model.proofs.laws.common_steps_compare_alike.Goals as goal

pub returns : goal.returns
returns c = common_front
