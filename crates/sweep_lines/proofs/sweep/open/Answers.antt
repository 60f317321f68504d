-- The span that begins with one more mark is added, under a new key.
use Rattle.std.proofs.Common.{◌∙◌, sym, subst, take, ◌+◌}
use Rattle.sweep_lines.specs.Open.{AreOpened}
use Rattle.sweep_lines.proofs.Loops.{opened_more, opened_same, opened_new}
use Rattle.sweep_lines.proofs.sweep.open.Goals as goal
use Rattle.sweep_lines.proofs.sweep.open.Goals.{in-Some+in_ok-insert, in_default}

pub insert-requires-clause-new_key : goal.insert-requires-clause-new_key
insert-requires-clause-new_key c =
    opened_new c.args.here.now c.loop-mark.mark-index _ c.loop-mark-test.true c.args.index.now c.loop-mark.index c.loop-mark.invariant
    c.requires.once c.requires.new c.in-Some.span (sym c.begun.ensures ∙ c.in-Some.is)

pub loop-mark-preserved : goal.loop-mark-preserved
loop-mark-preserved c = elim c.match-begun.branch [
  | in-Some+in_ok-insert w ↦
      subst (AreOpened (take (c.loop-mark.mark-index + 1) c.args.here.now) c.args.index.now) (sym (w.index-is ∙ w.in_ok-insert.ensures.ok))
      (opened_more c.args.here.now c.loop-mark.mark-index _ c.loop-mark-test.true c.args.index.now c.loop-mark.index c.loop-mark.invariant w.in-Some.span (sym c.begun.ensures ∙ w.in-Some.is))
  | in_default w ↦
      subst (AreOpened (take (c.loop-mark.mark-index + 1) c.args.here.now) c.args.index.now) (sym w.index-is)
      (opened_same c.args.here.now c.loop-mark.mark-index _ c.loop-mark-test.true c.args.index.now c.loop-mark.index c.loop-mark.invariant (sym c.begun.ensures ∙ w.in_default.is))
]
