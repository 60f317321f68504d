-- The crossings of a line stand in one order.
use Rattle.move_model.proofs.Moving.Moves.{one_move}
use Rattle.move_model.proofs.Moving.Crossings.{nearest_back}
use Rattle.move_model.proofs.laws.moves_lead_back.Goals as goal

pub returns : goal.returns
returns c = record { one = λ a via x y z m n arena. one_move a arena via x y z m n; back = λ a d from to arena. nearest_back a arena d from to }
