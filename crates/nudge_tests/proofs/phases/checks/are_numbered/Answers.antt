-- One run after another has been tried.
use Rattle.std.proofs.Common.{◌≡◌, ◌+◌, subst, refl, below_more}
use Rattle.segment_order.specs.declared.run.Run.{Run}
use Rattle.segment_order.specs.Run.{IsRun}
use Rattle.nudge_tests.proofs.phases.checks.are_numbered.Goals as goal

pub loop-k-preserved : goal.loop-k-preserved
loop-k-preserved c =
    let is = c.run_of-run.ensures in
    let e = c.if-not-is_run_of.ensures in
    record {
      each = below_more _ _ c.loop-k.invariant.each (subst IsRun is (e.run refl));
      edges = below_more _ _ c.loop-k.invariant.edges (subst (λ (r : Run). r.edge ≡ c.args.edge) is (e.edge refl));
      places = below_more _ _ c.loop-k.invariant.places (subst (λ (r : Run). r.place ≡ c.loop-k.k + 1) is (e.place refl));
    }
