-- The rules so far, with those that are still to come, are the rules of the run.
use Rattle.std.proofs.Common.{◌≡◌, ◌+◌, ◌++◌, drop}
use Rattle.channel_bundles.specs.Links.{member_at, rules_from}
use Rattle.channel_bundles.proofs.links.push_rules_of.Given as goal

abbrev pub invariant-loop-later : goal.invariant-loop-later
invariant-loop-later l =
    l.rules.items ++ rules_from l.nudge l.at (member_at l.members l.at) l.later (drop l.later l.members)
    ≡ l.initial.rules.items ++ rules_from l.nudge l.at (member_at l.members l.at) (l.at + 1) (drop (l.at + 1) l.members)
