-- The clauses are lemmas: `one_widest_gap` and `one_least`.
use Rattle.separation_model.proofs.Chains.{one_widest_gap, one_least}
use Rattle.separation_model.proofs.laws.reduced_places.Goals as goal

pub returns : goal.returns
returns c = record { widest = one_widest_gap; least = one_least }
