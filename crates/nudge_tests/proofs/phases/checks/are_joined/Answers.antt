-- One run after another has been tried.
use Rattle.std.proofs.Common.{◌≡◌, ◌≢◌, ℕ, ◌+◌, ◌-◌, ◌<◌, refl, sym, ap, subst, ◌∙◌, arith}
use Rattle.segment_order.specs.declared.run.Run.{Run}
use Rattle.segment_order.specs.Run.{end_of_run, run_at, start_of_run}
use Rattle.channel_bundles.proofs.Trees.{cases_same}
use Rattle.nudge_tests.proofs.phases.checks.are_joined.Goals as goal

-- what holds of all neighbours before k, and of k and the one before it, holds of all before the next
next : (P : ℕ → ℕ → Type 0) (i k : ℕ) → i + 1 ≡ k → ((j : ℕ) → j + 1 < k → P j (j + 1)) → P i k → (j : ℕ) → j + 1 < k + 1 → P j (j + 1)
next P i k e before here j h = cases_same j i
    (λ same. subst (λ n. P n (n + 1)) (sym same) (subst (λ n. P i n) (sym e) here))
    (λ ne. before j (omega arith))

pub loop-k-preserved : goal.loop-k-preserved
loop-k-preserved c =
    let runs = c.args.runs.now in
    let k = c.loop-k.k in
    let after : (k - 1) + 1 ≡ k = omega (arith, c.loop-k.auto.k) in
    let is_before = c.run_of-before.ensures in
    let is_run = c.run_of-run.ensures in
    let e = c.if-not-goes_on.ensures in
    record {
      joined = next (λ i j. end_of_run (run_at runs i) ≡ start_of_run (run_at runs j)) (k - 1) k after c.loop-k.invariant.joined (sym (ap end_of_run is_before) ∙ e.joined refl ∙ ap start_of_run is_run);
      turns = next (λ i j. (run_at runs i).heading ≢ (run_at runs j).heading) (k - 1) k after c.loop-k.invariant.turns
          (λ same. e.turns refl (ap (λ (r : Run). r.heading) is_before ∙ same ∙ sym (ap (λ (r : Run). r.heading) is_run)));
    }
