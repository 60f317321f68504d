-- A span under a new number is added if the bar is open.
use Rattle.std.proofs.Common.{◌≡◌, ◌∙◌, refl, sym, ap, subst, false, true, take, ◌+◌}
use Rattle.interval_index.specs.declared.span.Span.{Span}
use Rattle.interval_index.specs.Index.{has_key}
use Rattle.interval_index.specs.Order.{inserted}
use Rattle.sweep_lines.specs.Open.{AreSpansOf, HasBegun}
use Rattle.sweep_lines.proofs.Loops.{new_number, one_more_span, no_more_span}
use Rattle.sweep_lines.proofs.bar.open_before.Goals as goal
use Rattle.sweep_lines.proofs.bar.open_before.Goals.{then-has_begun+in_ok-insert, else-has_begun}

pub insert-requires-clause-new_key : goal.insert-requires-clause-new_key
insert-requires-clause-new_key c =
    subst (λ k. has_key k c.loop-number.index ≡ false) (sym (ap (λ (s : Span). s.key) c.span.ensures))
    (new_number c.args.bars.now (HasBegun _) c.loop-number.number c.loop-number.index c.loop-number.invariant)

pub loop-number-preserved : goal.loop-number-preserved
loop-number-preserved c = elim c.if-has_begun.branch [
  | then-has_begun+in_ok-insert w ↦
      subst (AreSpansOf (take (c.loop-number.number + 1) c.args.bars.now) (HasBegun _))
      (sym (w.index-is ∙ w.in_ok-insert.ensures.ok ∙ ap (λ s. inserted s c.loop-number.index) w.span.ensures))
      (one_more_span c.args.bars.now (HasBegun _) c.loop-number.number c.loop-number.index c.loop-number.invariant _ _ c.loop-number-test.true refl (w.if-has_begun.ensures.0 refl))
  | else-has_begun w ↦
      subst (AreSpansOf (take (c.loop-number.number + 1) c.args.bars.now) (HasBegun _)) (sym w.index-is)
      (no_more_span c.args.bars.now (HasBegun _) c.loop-number.number c.loop-number.index c.loop-number.invariant _ _ c.loop-number-test.true refl (λ h. let e : false ≡ true = w.if-has_begun.ensures.1 h in cc))
]
