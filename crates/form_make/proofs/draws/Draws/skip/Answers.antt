-- One draw more is skipped.
use Rattle.std.proofs.Common.{refl, sym, ◌+◌}
use Rattle.form_make.proofs.DrawLemmas.{next_is, state_after-zero}
use Rattle.form_make.proofs.draws.Draws.skip.Goals as goal

pub loop-skipped-init : goal.loop-skipped-init
loop-skipped-init c = sym (state_after-zero c.args.self.now.state)

pub loop-skipped-preserved : goal.loop-skipped-preserved
loop-skipped-preserved c =
    next_is c.args.self.now.state c.loop-skipped._skipped (c.loop-skipped._skipped + 1) c.loop-skipped.self.state c.below.new.self.state refl
    c.loop-skipped.invariant c.below.ensures.state
