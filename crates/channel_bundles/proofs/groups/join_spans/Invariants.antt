-- The spans so far are joined where they meet.
use Rattle.std.proofs.Common.{length}
use Rattle.channel_bundles.proofs.Spans.{AreJoined}
use Rattle.channel_bundles.proofs.groups.join_spans.Given as goal

abbrev pub invariant-loop-span : goal.invariant-loop-span
invariant-loop-span l = AreJoined l.spans (length l.initial.farthest) l.span-index l.forest.above.items l.farthest
