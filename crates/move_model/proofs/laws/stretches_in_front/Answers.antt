-- The share of the stretch is added to what is ahead after it.
use Rattle.move_model.proofs.GoingOn.Stretching.{stretch_ahead, stretch_order, stub_ahead}
use Rattle.move_model.proofs.laws.stretches_in_front.Goals as goal

pub returns : goal.returns
returns c = record { steps = stretch_ahead; stub = stub_ahead; order = stretch_order }
