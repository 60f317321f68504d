-- The law is a lemma: `one_rounded`.
use Rattle.separation_model.proofs.Rounding.{one_rounding, one_whole, rounded_down_is}
use Rattle.separation_model.proofs.laws.one_rounded.Goals as goal

pub returns-clause-fractions : goal.returns-clause-fractions
returns-clause-fractions c = λ num other den other_den some more same. one_whole num other _ _ den other_den some more same (rounded_down_is num den some) (rounded_down_is other other_den more)

pub returns-clause-least : goal.returns-clause-least
returns-clause-least c = one_rounding
