-- What the line meets of the others stands between the two places, and what stands there meets it or does not reach it.
use Rattle.std.proofs.Common.{◌≡◌, ◌+◌, ◌<◌, true, not, get_or, length, sym, ap, subst, ◌∙◌, arith}
use Rattle.std.specs.Prelude.{filter, int_lt}
use Rattle.std.proofs.lemmas.List.{get_or-drop, get_or-take}
use Rattle.plane_geom.specs.declared.floor.Line.{Line}
use Rattle.visibility_graph.specs.Meeting.{meets, reaches, sorted_out}
use Rattle.visibility_graph.proofs.Counts.{filter_before, filter_after, nothing}
use Rattle.visibility_graph.proofs.Parted.{met_across, not_met_before, not_met_behind}
use Rattle.visibility_graph.proofs.meeting.beside.Goals as goal

pub returns-then-are_all_vertical-clause-met : goal.returns-then-are_all_vertical-clause-met
returns-then-are_all_vertical-clause-met c = sym (nothing (meets c.args.line.now) c.args.others.now (c.are_all_vertical.ensures c.if-are_all_vertical.true))

pub returns-clause-met : goal.returns-clause-met
returns-clause-met c =
    let line = c.args.line.now in
    let others = c.args.others.now in
    let front = c.split_at.result.0.now in
    ap (filter (meets line)) c.split_at-2.ensures.back
    ∙ filter_after (meets line) front c.count_before-before.result (λ k d low high. not_met_before line (get_or front k d) (c.count_before-before.ensures.point.0 k d low high))
    ∙ ap (filter (meets line)) c.split_at.ensures.front
    ∙ filter_before (meets line) others c.count_upto_end.result (λ k d low high. not_met_behind line (get_or others k d) (c.count_upto_end.ensures.point.1 k d low high))

pub returns-clause-across : goal.returns-clause-across
returns-clause-across c = λ k d l.
    let line = c.args.line.now in
    let others = c.args.others.now in
    let front = c.split_at.result.0.now in
    let i = c.count_before-before.result + k in
    let inside : i < length front = omega (arith, l, c.split_at-2.ensures.back_len, c.count_before-before.ensures.bound) in
    let upto : i < c.count_upto_end.result = omega (arith, inside, c.split_at.ensures.front_len, c.count_upto_end.ensures.bound) in
    let is_front : get_or front i d ≡ get_or others i d = ap (λ ls. get_or ls i d) c.split_at.ensures.front ∙ get_or-take c.count_upto_end.result others i d upto in
    let is_here = ap (λ ls. get_or ls k d) c.split_at-2.ensures.back ∙ get_or-drop c.count_before-before.result front k d in
    let low = c.count_before-before.ensures.point.1 i d (omega arith) inside in
    let high = subst (λ (m : Line). sorted_out line.way m.way (not (int_lt line.hi m.at)) ≡ true) (sym is_front) (c.count_upto_end.ensures.point.0 i d (omega arith) upto) in
    subst (λ (m : Line). meets line m ≡ reaches m line.at) (sym is_here) (met_across line (get_or front i d) low high)
