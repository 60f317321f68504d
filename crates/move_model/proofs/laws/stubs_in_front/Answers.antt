-- The stub is the walk's first stretch.
use Rattle.move_model.proofs.GoingOn.Stretching.{start_ahead, start_order}
use Rattle.move_model.proofs.laws.stubs_in_front.Goals as goal

pub returns : goal.returns
returns c = record { steps = start_ahead; order = start_order }
