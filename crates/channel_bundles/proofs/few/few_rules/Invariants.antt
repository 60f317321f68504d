-- The rules of the runs before `at` are there.
use Rattle.channel_bundles.proofs.Keeping.{IsKeeping}
use Rattle.channel_bundles.proofs.few.few_rules.Given as goal

abbrev pub invariant-loop-at : goal.invariant-loop-at
invariant-loop-at l = IsKeeping l.nudge l.members l.rules.items l.at
