-- What the loop of `keeps_rules` keeps.
use Rattle.std.proofs.Common.{ℕ, ◌<◌}
use Rattle.separation_model.specs.Checked.{KeepsRuleAt}
use Rattle.separation_model.proofs.certificate.keeps_rules.Given as goal

abbrev pub invariant-loop-j : goal.invariant-loop-j
invariant-loop-j l = (k : ℕ) → k < l.j → KeepsRuleAt l.bundle l.solution k
