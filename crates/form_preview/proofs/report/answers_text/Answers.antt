-- One answer on.
use Rattle.std.proofs.Common.{List, ◌∷◌, ◌≡◌, ◌+◌, ◌++◌, drop, sym, ap, ◌∙◌, append_assoc}
use Rattle.std.proofs.lemmas.List.{at_drop_more}
use Rattle.preview.specs.declared.answer.Previewed.{Previewed}
use Rattle.form_preview.specs.Proposes.{answer_lines, lines_from}
use Rattle.form_preview.proofs.report.answers_text.Goals as goal

pub loop-index-preserved : goal.loop-index-preserved
loop-index-preserved c =
    let answers : List Previewed = c.args.answers.now in
    let i = c.loop-index.index in
    let a : Previewed = c.index-answers-index.result in
    let out = c.loop-index.text.items in
    let later = drop (i + 1) answers in
    let rest = lines_from (i + 1 + 1) later in
    let pushed : c.push_answer.new.text.items ≡ out ++ answer_lines (i + 1) a = c.in_ok-push_answer.ensures in
    ap (λ t. t ++ rest) pushed
    ∙ append_assoc out (answer_lines (i + 1) a) rest
    ∙ ap (λ t. out ++ t) (ap (λ (p : Previewed). lines_from (i + 1) (p ∷ later)) c.index-answers-index.is ∙ sym (at_drop_more (lines_from (i + 1)) answers i a c.loop-index-test.true))
    ∙ c.loop-index.invariant
