-- The law is a lemma: `padded_sum`.
use Rattle.separation_model.proofs.Padded.{padded_sum}
use Rattle.separation_model.proofs.laws.padded_pushes.Goals as goal

pub returns : goal.returns
returns c = padded_sum
