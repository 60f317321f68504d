-- A stretch in front.
use Rattle.move_model.proofs.Stopping.WayRuns.{straight_ahead, turned_ahead}
use Rattle.move_model.proofs.stations.straight_legs_in_front.Goals as goal

pub returns : goal.returns
returns c = record {
  on = λ a via x y p q d l ls arena leads straight at_p at_q. straight_ahead a arena via x y p q d l ls leads straight at_p at_q;
  turned = λ a via x y p q d l ls arena leads straight at_p at_q. turned_ahead a arena via x y p q d l ls leads straight at_p at_q;
}
