-- What the loop of `keeps_limits` keeps.
use Rattle.std.proofs.Common.{ℕ, ◌<◌}
use Rattle.separation_model.specs.Checked.{KeepsLimitsAt}
use Rattle.separation_model.proofs.certificate.keeps_limits.Given as goal

abbrev pub invariant-loop-i : goal.invariant-loop-i
invariant-loop-i l = (k : ℕ) → k < l.i → KeepsLimitsAt l.bundle l.solution k
