-- The law is a lemma: `rounded_down_meets`.
use Rattle.separation_model.proofs.Rounding.{rounded_meets}
use Rattle.separation_model.proofs.laws.rounded_down_meets.Goals as goal

pub returns : goal.returns
returns c = rounded_meets
