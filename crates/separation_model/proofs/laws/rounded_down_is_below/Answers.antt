-- The law is a lemma: `rounded_down_is_below`.
use Rattle.separation_model.proofs.Rounding.{rounded_down_only}
use Rattle.separation_model.proofs.laws.rounded_down_is_below.Goals as goal

pub returns : goal.returns
returns c = rounded_down_only
