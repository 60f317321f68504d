-- The law is a lemma: `one_least`.
use Rattle.separation_model.proofs.Optimum.Middle.{one_place}
use Rattle.separation_model.proofs.laws.one_least.Goals as goal

pub returns : goal.returns
returns c = one_place
