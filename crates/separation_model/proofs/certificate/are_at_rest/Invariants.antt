-- What the loop of `are_at_rest` keeps.
use Rattle.std.proofs.Common.{ℕ, ◌<◌}
use Rattle.separation_model.specs.Checked.{IsAtRest}
use Rattle.separation_model.proofs.certificate.are_at_rest.Given as goal

abbrev pub invariant-loop-i : goal.invariant-loop-i
invariant-loop-i l = (k : ℕ) → k < l.i → IsAtRest l.bundle l.solution k
