-- From `next - 1` on the least limits stand, before it the limits themselves.
use Rattle.std.proofs.Common.{map}
use Rattle.channel_bundles.proofs.Clear.{IsLowering}
use Rattle.channel_bundles.proofs.links.first_clear.Given as goal

abbrev pub invariant-loop-next : goal.invariant-loop-next
invariant-loop-next l = IsLowering (map (λ m. m.low) l.members) l.clear.items l.next

abbrev pub decreases-loop-next : goal.decreases-loop-next
decreases-loop-next l = l.next
