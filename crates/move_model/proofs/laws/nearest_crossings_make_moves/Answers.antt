-- Both crossings lie on one line.
use Rattle.move_model.proofs.Moving.Moves.{apart, made_move}
use Rattle.move_model.proofs.laws.nearest_crossings_make_moves.Goals as goal

pub returns : goal.returns
returns c = record { straight = apart; moved = made_move }
