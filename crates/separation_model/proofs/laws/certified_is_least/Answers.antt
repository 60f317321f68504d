-- The law is a lemma: `certified_is_least`.
use Rattle.separation_model.proofs.Optimum.Certificates.{certified_least}
use Rattle.separation_model.proofs.laws.certified_is_least.Goals as goal

pub returns : goal.returns
returns c = certified_least
