-- The law is a lemma: `least_positions_exist`.
use Rattle.separation_model.proofs.Optimum.Existence.{least_exist}
use Rattle.separation_model.proofs.laws.least_positions_exist.Goals as goal

pub returns : goal.returns
returns c = least_exist
