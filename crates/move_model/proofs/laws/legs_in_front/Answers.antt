-- Leg by leg, each a stretch in front.
use Rattle.move_model.proofs.GoingOn.Rests.{legs_no_less, legs_order, legs_same}
use Rattle.move_model.proofs.laws.legs_in_front.Goals as goal

pub returns : goal.returns
returns c = record {
  order = λ a via x y p q ls arena h at_p at_q penalty. legs_order a arena via penalty x y p q ls h at_p at_q;
  same = λ a via x y p q ls arena h at_p at_q penalty. legs_same a arena via penalty x y p q ls h at_p at_q;
  no_less = λ a via x y p q ls arena h at_p at_q penalty. legs_no_less a arena via penalty x y p q ls h at_p at_q;
}
