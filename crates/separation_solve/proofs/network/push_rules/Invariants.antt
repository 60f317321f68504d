-- What the loop of `push_rules` keeps.
use Rattle.std.proofs.Common.{◌≡◌, ◌++◌, map, take}
use Rattle.separation_solve.specs.Network.{rule_link}
use Rattle.separation_solve.proofs.network.push_rules.Given as goal

abbrev pub invariant-loop-rule : goal.invariant-loop-rule
invariant-loop-rule l = l.links.items ≡ l.fn.links.items ++ map (rule_link l.gap) (take l.rule-index l.rules)
