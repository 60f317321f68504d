-- A way is the middle of a tour.
use Rattle.move_model.proofs.GoingOn.Joined.{way_ahead}
use Rattle.move_model.proofs.Moving.LegalWays.{way_is_legal}
use Rattle.move_model.proofs.laws.ways_are_legal.Goals as goal

pub returns : goal.returns
returns c = record { legal = way_is_legal; ahead = way_ahead }
