-- By induction over the steps.
use Rattle.walk_model.proofs.CornerByCorner.Lengths.{steps_apart}
use Rattle.walk_model.proofs.line.walks_are_no_shorter.Goals as goal

pub returns : goal.returns
returns c = λ w. steps_apart w.start w.steps
