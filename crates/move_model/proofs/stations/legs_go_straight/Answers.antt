-- From crossing to nearest crossing.
use Rattle.move_model.proofs.Stopping.StraightLegs.{goes_free, goes_lies, straight_legs}
use Rattle.move_model.proofs.Stopping.Stops.{goes_heading}
use Rattle.move_model.proofs.stations.legs_go_straight.Goals as goal

pub returns : goal.returns
returns c = record {
  legs = λ a via x y p q arena at_p at_q lies free comes. straight_legs a arena via y q at_q x p at_p lies free comes;
  lies = λ a via x y d legs p q arena g at_p at_q. goes_lies a arena via x d legs y p q g at_p at_q;
  heading = λ a via x y d legs g. goes_heading a via x d legs y g;
  free = λ a via x y d legs arena g. goes_free a arena via x d legs y g;
}
