-- One more answer adds to the sums, which fit, since there are few answers with small routes.
use Rattle.std.proofs.Common.{◌+◌, sym, ap, subst, ◌∙◌, arith}
use Rattle.walk_model.specs.Cost.{bends}
use Rattle.walk_model.specs.Line.{IsOrthogonal, steps_of}
use Rattle.form_make.specs.declared.summary.Summary.{Summary}
use Rattle.form_make.proofs.Bends.{few_bends}
use Rattle.form_make.proofs.Summing.{few_answers, small, sums_up, with_route, without_route}
use Rattle.form_make.proofs.sums.summed.Goals as goal
use Rattle.form_make.proofs.sums.summed.Goals.{in-Some, in-None}

pub overflow_add-summary-in-Some : goal.overflow_add-summary-in-Some
overflow_add-summary-in-Some c =
    let valid = c.valid.ensures in
    let few = few_answers c.args.scene.now c.args.answers.now valid c.requires in
    let is_small = small c.args.scene.now c.args.answers.now valid c.requires c.loop-answer.answer-index c.answer-item.result c.in-Some.route c.loop-answer-test.true c.answer-item.is c.in-Some.is in
    omega (arith, few, is_small)

pub bends_of-requires : goal.bends_of-requires
bends_of-requires c =
    subst IsOrthogonal (sym c.as_slice.ensures)
    (small c.args.scene.now c.args.answers.now c.valid.ensures c.requires c.loop-answer.answer-index c.answer-item.result c.in-Some.route c.loop-answer-test.true c.answer-item.is c.in-Some.is).line

pub overflow_add-summary-in-Some-2 : goal.overflow_add-summary-in-Some-2
overflow_add-summary-in-Some-2 c =
    let valid = c.valid.ensures in
    let few = few_answers c.args.scene.now c.args.answers.now valid c.requires in
    let is_small = small c.args.scene.now c.args.answers.now valid c.requires c.loop-answer.answer-index c.answer-item.result c.in-Some.route c.loop-answer-test.true c.answer-item.is c.in-Some.is in
    let short = is_small.line.corners.few in
    omega (arith, few, short, few_bends c.in-Some.route.points, c.bends_of.ensures, ap (λ ps. bends (steps_of ps)) c.as_slice.ensures)

pub loop-answer-preserved : goal.loop-answer-preserved
loop-answer-preserved c =
    let answers = c.args.answers.now in
    let searches = c.args.searched in
    let i = c.loop-answer.answer-index in
    let a = c.answer-item.result in
    let m : Summary = c.loop-answer.summary in
    let h = c.loop-answer-test.true in
    let is = c.answer-item.is in
    let so = c.loop-answer.invariant in
    elim c.match-answer.branch [
      | in-Some w ↦ (
          let is_small = small c.args.scene.now answers c.valid.ensures c.requires i a w.in-Some.route h is w.in-Some.is in
          let bent = w.bends_of.ensures ∙ ap (λ ps. bends (steps_of ps)) w.as_slice.ensures in
          with_route answers searches i a m h is so w.in-Some.route c.match-answer.summary w.in-Some.is is_small
          (ap (λ (n : Summary). n.routed) w.summary-is) (ap (λ (n : Summary). n.unrouted) w.summary-is)
          (ap (λ (n : Summary). n.cost) w.summary-is ∙ ap (λ n. m.cost + n) w.from.ensures) (ap (λ (n : Summary). n.bends) w.summary-is ∙ ap (λ n. m.bends + n) bent)
          (ap (λ (n : Summary). n.searched) w.summary-is))
      | in-None w ↦
          without_route answers searches i a m h is so c.match-answer.summary w.in-None.is
          (ap (λ (n : Summary). n.routed) w.summary-is) (ap (λ (n : Summary). n.unrouted) w.summary-is)
          (ap (λ (n : Summary). n.cost) w.summary-is) (ap (λ (n : Summary). n.bends) w.summary-is) (ap (λ (n : Summary). n.searched) w.summary-is)
    ]

pub returns : goal.returns
returns c = sums_up c.args.scene.now c.args.answers.now c.valid.ensures c.requires c.loop-answer.answer-index c.args.searched c.loop-answer.summary c.loop-answer-test.false c.loop-answer.invariant
