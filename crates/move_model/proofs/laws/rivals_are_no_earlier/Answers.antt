-- Else they would stand before the first one.
use Rattle.move_model.proofs.GoingOn.Rivals.{least, start_no_later, steps_no_later}
use Rattle.move_model.proofs.laws.rivals_are_no_earlier.Goals as goal

pub returns : goal.returns
returns c = record { least = least; start = start_no_later; steps = steps_no_later }
