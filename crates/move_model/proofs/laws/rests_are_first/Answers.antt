-- With the legs in front, another way is a rival of the first walk.
use Rattle.move_model.proofs.GoingOn.Rests.{rest_first, rest_least}
use Rattle.move_model.proofs.laws.rests_are_first.Goals as goal

pub returns : goal.returns
returns c = record { least = rest_least; steps = rest_first }
