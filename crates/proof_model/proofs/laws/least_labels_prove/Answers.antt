-- Each label is reached, and a walk that is reached and ends is legal.
use Rattle.proof_model.proofs.LeastLabels.{prove_claim}
use Rattle.proof_model.proofs.OneList.{one_list}
use Rattle.proof_model.proofs.laws.least_labels_prove.Goals as goal

pub returns : goal.returns
returns c = record {
  prove = λ floor a task claim rows arena stands is_floor is_task on_floor right l.
      prove_claim floor a arena stands task is_task is_floor on_floor rows claim right l;
  one = one_list;
}
