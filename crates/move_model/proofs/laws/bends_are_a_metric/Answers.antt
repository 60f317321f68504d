-- There are four directions.
use Rattle.walk_model.proofs.CornerByCorner.Bends.{turn_same}
use Rattle.walk_laws.proofs.Steps.Turns.{triangle}
use Rattle.move_model.proofs.Bounds.{no_turn, turn_back}
use Rattle.move_model.proofs.laws.bends_are_a_metric.Goals as goal

pub returns : goal.returns
returns c = record { same = no_turn; none = turn_same; turned = turn_back; triangle = triangle }
