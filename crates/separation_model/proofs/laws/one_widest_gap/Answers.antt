-- The law is a lemma: `one_widest_gap`.
use Rattle.separation_model.proofs.Gaps.WidestExists.{widest_exists, one_widest}
use Rattle.separation_model.proofs.laws.one_widest_gap.Goals as goal

pub returns : goal.returns
returns c = record { some = widest_exists; one = one_widest }
