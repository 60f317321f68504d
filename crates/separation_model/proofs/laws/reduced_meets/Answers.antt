-- The law is a lemma: `one_set`.
use Rattle.separation_model.proofs.Chains.{one_set}
use Rattle.separation_model.proofs.laws.reduced_meets.Goals as goal

pub returns : goal.returns
returns c = one_set
