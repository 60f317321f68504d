-- The law is a lemma: `middles_reduce`.
use Rattle.separation_model.proofs.Chains.{middles_reduce}
use Rattle.separation_model.proofs.laws.middles_reduce.Goals as goal

pub returns : goal.returns
returns c = middles_reduce
