-- The law is a lemma: `same_classes`.
use Rattle.channel_bundles.proofs.Chained.{same_classes}
use Rattle.channel_bundles.proofs.laws.reduced_connects.Goals as goal

pub returns : goal.returns
returns c = same_classes
