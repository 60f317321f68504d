-- What the line meets stands beside it, and reaches its whole line.
use Rattle.std.proofs.Common.{length, sym, ap, ◌∙◌}
use Rattle.std.specs.Prelude.{count_by}
use Rattle.std.proofs.lemmas.List.{take_all}
use Rattle.std.proofs.lemmas.List.Sums.{length-filter}
use Rattle.visibility_graph.specs.Meeting.{meets, reaches}
use Rattle.visibility_graph.proofs.Counts.{count_agree}
use Rattle.visibility_graph.proofs.meeting.count_met.Goals as goal

pub returns : goal.returns
returns c =
    let line = c.args.line.now in
    let test = meets line in
    let near = c.beside.result.1.now in
    let counted = c.loop-other.invariant.counted ∙ ap (count_by (λ m. reaches m line.at)) (take_all c.loop-other.other-index near c.loop-other-test.false) in
    let agreed = count_agree (λ m. reaches m line.at) test near (λ k d l. sym (c.beside.ensures.across k d l)) in
    counted ∙ agreed ∙ sym (length-filter test near) ∙ ap length c.beside.ensures.met ∙ length-filter test c.args.others.now
