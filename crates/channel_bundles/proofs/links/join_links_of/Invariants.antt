-- The links to the runs of the group before `later` are joined. Each step goes on.
use Rattle.std.proofs.Common.{◌-◌, length}
use Rattle.channel_bundles.proofs.Linking.{IsLinking}
use Rattle.channel_bundles.proofs.links.join_links_of.Given as goal

abbrev pub invariant-loop-later : goal.invariant-loop-later
invariant-loop-later l = IsLinking l.nudge l.members l.next l.fn.forest.above.items l.forest.above.items l.at l.later

abbrev pub decreases-loop-later : goal.decreases-loop-later
decreases-loop-later l = length l.members - l.later
