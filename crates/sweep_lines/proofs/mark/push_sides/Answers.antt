-- Both sides of one more bar come after the others.
use Rattle.std.proofs.Common.{◌∙◌, ◌++◌, sym, ap, ◌∷◌, []}
use Rattle.sweep_lines.proofs.Loops.{sides_more, pushed_both}
use Rattle.sweep_lines.proofs.mark.push_sides.Goals as goal

pub loop-number-preserved : goal.loop-number-preserved
loop-number-preserved c =
    pushed_both c.loop-number.marks.items c.push.new.self.items c.push-in-loop-number.new.self.items c.args.marks.now.items _ _ _
    (c.in_ok-push.ensures.items ∙ ap (λ m. c.loop-number.marks.items ++ m ∷ []) c.begin.ensures)
    (c.in_ok-push-2.ensures.items ∙ ap (λ m. c.push.new.self.items ++ m ∷ []) c.end.ensures)
    c.loop-number.invariant
    ∙ ap (λ ms. c.args.marks.now.items ++ ms) (sym (sides_more c.args.bars.now c.loop-number.number _ c.loop-number-test.true))
