-- The law is a lemma: `padded_certified`.
use Rattle.separation_model.proofs.Padded.{padded_certified}
use Rattle.separation_model.proofs.laws.padded_is_certified.Goals as goal

pub returns : goal.returns
returns c = padded_certified
