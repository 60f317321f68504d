-- From `at` on each place has its next one.
use Rattle.channel_bundles.proofs.Grouping.{AreNextFrom}
use Rattle.channel_bundles.proofs.groups.next_of_group.Given as goal

abbrev pub invariant-loop-at : goal.invariant-loop-at
invariant-loop-at l = AreNextFrom l.groups l.first.items l.next.items l.at

abbrev pub decreases-loop-at : goal.decreases-loop-at
decreases-loop-at l = l.at
