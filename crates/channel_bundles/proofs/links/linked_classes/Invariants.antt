-- The links of the runs before `at` are joined.
use Rattle.channel_bundles.proofs.Linking.{AreLinked}
use Rattle.channel_bundles.proofs.links.linked_classes.Given as goal

abbrev pub invariant-loop-at : goal.invariant-loop-at
invariant-loop-at l = AreLinked l.nudge l.members l.forest.above.items l.at
