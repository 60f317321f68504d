-- The trees, with the two numbers that are left to be joined, are the first trees with a and b. Each step goes up.
use Rattle.std.proofs.Common.{◌+◌}
use Rattle.channel_bundles.proofs.Trees.{IsJoining}
use Rattle.channel_bundles.proofs.forest.Forest.join.Given as goal

abbrev pub invariant-loop-a : goal.invariant-loop-a
invariant-loop-a l = IsJoining l.fn.self.above.items l.fn.a l.fn.b l.self.above.items l.low l.high

abbrev pub decreases-loop-a : goal.decreases-loop-a
decreases-loop-a l = l.low + l.high
