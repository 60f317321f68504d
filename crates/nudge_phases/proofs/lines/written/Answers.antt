-- Each run adds a corner, or none.
use Rattle.std.proofs.Common.{◌≡◌, ◌+◌, ◌<ℤ◌, ◌≤ℤ◌, ◌↔◌, ℤ, Bool, true, false, true≢false, get_or, length, Some, List, arith, refl, ap, sym, subst, ◌∙◌}
use Rattle.std.specs.Prelude.{IsTrue}
use Rattle.std.proofs.lemmas.Int.{by_lt_z}
use Rattle.std.proofs.lemmas.List.{drop_all}
use Rattle.segment_order.specs.declared.run.Run.{Run}
use Rattle.segment_order.specs.Run.{AreRunsOf, end_of_run, run_at}
use Rattle.nudge_phases.specs.LegalRuns.{walk_along}
use Rattle.nudge_phases.proofs.Cornering.{AreCornersSoFar, corner_more, corner_on, corner_same, corners_are, corners_draw, corners_end}
use Rattle.nudge_phases.proofs.RouteRuns.{past_run, same_read}
use Rattle.nudge_phases.proofs.lines.written.Goals as goal
use Rattle.nudge_phases.proofs.lines.written.Goals.{then-has_length, then-not-straight+in_ok-push, else-not-straight, else-has_length}

differs : (b : Bool) → b ≡ true → b ≡ false → ⊥
differs b is not = true≢false (sym is ∙ not)

not_less : (y z : ℤ) → (y <ℤ z → ⊥) → z ≤ℤ y
not_less y z never = by_lt_z y z (λ l. absurd (never l)) (λ l. l)

pub loop-run-preserved : goal.loop-run-preserved
loop-run-preserved c =
    let edge = c.args.route.now.edge in
    let own = c.args.route.now.runs.items in
    let items = c.deref-run-items.result.now in
    let same = c.deref-run-items.ensures.value in
    let k = c.loop-run.run-index in
    let are = subst (AreRunsOf edge) (sym same) c.requires in
    let is = subst (λ (rs : List Run). AreCornersSoFar rs c.loop-run.points c.loop-run.at c.loop-run.heading k) (sym same) c.loop-run.invariant in
    let in_runs = c.loop-run-test.true in
    let r = run_at items k in
    let read : get_or items k past_run ≡ r = same_read items k in_runs in
    let long = subst (λ (q : Run). IsTrue c.has_length.result ↔ (q.lo <ℤ q.hi)) read c.has_length.ensures in
    elim c.if-has_length.branch [
      | then-has_length w ↦
          let straight = subst (λ (q : Run). IsTrue w.goes_on-straight.result ↔ (c.loop-run.heading ≡ Some q.heading)) read w.goes_on-straight.ensures in
          let end_is : w.end-at.result ≡ end_of_run r = w.end-at.ensures ∙ ap end_of_run read in
          let heading_is : c.if-has_length.heading ≡ Some r.heading = w.heading-is ∙ ap (λ (q : Run). Some q.heading) read in
          elim w.if-not-straight.branch [
            | then-not-straight+in_ok-push v ↦
                corners_are own items _ _ _ _ _ _ (k + 1) same (w.points-is ∙ v.points-is) (w.at-is ∙ end_is) heading_is
                (corner_more edge items are c.loop-run.points c.loop-run.at c.loop-run.heading k in_runs is (long.0 w.if-has_length.true)
                (λ e. differs _ (straight.1 e) v.if-not-straight.true) _ v.in_ok-push.ensures.ok)
            | else-not-straight v ↦
                corners_are own items _ _ _ _ _ _ (k + 1) same (w.points-is ∙ v.points-is) (w.at-is ∙ end_is) heading_is
                (corner_on edge items are c.loop-run.points c.loop-run.at c.loop-run.heading k in_runs is (straight.0 v.if-not-straight.false))
          ]
      | else-has_length w ↦
          corners_are own items _ _ _ _ _ _ (k + 1) same w.points-is w.at-is w.heading-is
          (corner_same edge items are c.loop-run.points c.loop-run.at c.loop-run.heading k in_runs is (not_less r.lo r.hi (λ l. differs _ (long.1 l) w.if-has_length.false)))
    ]

pub returns : goal.returns
returns c =
    let runs = c.args.route.now.runs.items in
    let all = corners_end runs c.loop-run.points _ c.loop-run.at c.loop-run.heading c.loop-run.run-index c.loop-run.invariant
    (drop_all c.loop-run.run-index runs (let past = c.loop-run-test.false in let same = ap length c.deref-run-items.ensures.value in omega (arith, past, same)))
    c.in_ok-push-2.ensures.ok in
    let drawn = corners_draw _ (walk_along runs) all in
    record { edge = refl; draws = drawn.0; corners = drawn.1 }
