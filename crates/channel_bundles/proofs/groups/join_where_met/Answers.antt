-- Where the spans do not meet, the trees stay as they are.
use Rattle.channel_bundles.proofs.Trees.{connected_link}
use Rattle.channel_bundles.proofs.groups.join_where_met.Goals as goal

pub returns-else-span-far-clause-kept : goal.returns-else-span-far-clause-kept
returns-else-span-far-clause-kept c = λ i j up. connected_link i j up
