-- The state is that after the draws skipped so far.
use Rattle.std.proofs.Common.{◌≡◌}
use Rattle.form_make.specs.Draws.{state_after}
use Rattle.form_make.proofs.draws.Draws.skip.Given as goal

abbrev pub invariant-loop-skipped : goal.invariant-loop-skipped
invariant-loop-skipped l = l.self.state ≡ state_after l.fn.self.state l._skipped
