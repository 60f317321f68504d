-- The spans that end with one more mark go out.
use Rattle.std.proofs.Common.{◌∙◌, sym, ap}
use Rattle.interval_index.specs.Index.{without_key}
use Rattle.sweep_lines.proofs.Loops.{closed_none, closed_more, closed_same, ends_never}
use Rattle.sweep_lines.proofs.sweep.close.Goals as goal
use Rattle.sweep_lines.proofs.sweep.close.Goals.{in-End, in_default}

pub loop-mark-init : goal.loop-mark-init
loop-mark-init c = sym (closed_none c.args.here.now c.args.index.now)

pub loop-mark-preserved : goal.loop-mark-preserved
loop-mark-preserved c = elim c.match-mark.branch [
  | in-End w ↦
      w.index-is ∙ w.remove.ensures.rest ∙ ap (without_key w.in-End.number) c.loop-mark.invariant
      ∙ closed_more c.args.here.now c.loop-mark.mark-index _ c.loop-mark-test.true c.args.index.now w.in-End.number w.in-End.is
  | in_default w ↦
      w.index-is ∙ c.loop-mark.invariant
      ∙ closed_same c.args.here.now c.loop-mark.mark-index _ c.loop-mark-test.true c.args.index.now (ends_never _ w.in_default.not-End)
]
