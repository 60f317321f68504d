-- The rules so far, with those that are still to come, are all rules.
use Rattle.std.proofs.Common.{◌≡◌, ◌++◌, drop}
use Rattle.channel_bundles.specs.Links.{rules_after}
use Rattle.channel_bundles.proofs.links.rules_of.Given as goal

abbrev pub invariant-loop-at : goal.invariant-loop-at
invariant-loop-at l = l.rules.items ++ rules_after l.nudge l.at (drop l.at l.members) ≡ rules_after l.nudge 0 l.members
