-- The links to the runs before the nearest one ahead are kept, or have a middle. Each step goes on.
use Rattle.std.proofs.Common.{◌-◌, length}
use Rattle.channel_bundles.specs.Kept.{LeadOn, nearest}
use Rattle.channel_bundles.proofs.Looking.{IsLooking}
use Rattle.channel_bundles.proofs.few.push_few_of.Given as goal

abbrev pub invariant-loop-hider : goal.invariant-loop-hider
invariant-loop-hider l = (lead : LeadOn l.nudge l.members l.nexts.channel.items l.nexts.early.items l.nexts.late.items) →
    IsLooking l.nudge l.members lead.channels lead.earlies lead.lates l.fn.rules.items l.at l.rules.items l.ahead.channel l.ahead.early l.ahead.late l.hider

abbrev pub decreases-loop-hider : goal.decreases-loop-hider
decreases-loop-hider l = length l.members - nearest l.ahead.channel l.ahead.early l.ahead.late
