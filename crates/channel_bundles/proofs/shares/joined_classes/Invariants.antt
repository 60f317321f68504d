-- The ends of the rules so far are joined.
use Rattle.channel_bundles.proofs.Sharing.{AreJoined}
use Rattle.channel_bundles.proofs.shares.joined_classes.Given as goal

abbrev pub invariant-loop-rule : goal.invariant-loop-rule
invariant-loop-rule l = AreJoined l.rules l.count l.forest.above.items l.rule-index
