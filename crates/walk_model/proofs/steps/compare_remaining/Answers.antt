-- Equal steps in front leave the order to the others.
use Rattle.std.proofs.Common.{◌≡◌, ◌≢◌, ◌∙◌, rules, arith, sym}
use Rattle.walk_model.specs.Order.{dir_cmp}
use Rattle.walk_model.proofs.Ranking.StepOrder.{same_after, fewer_after, slice_cmp-different}
use Rattle.walk_model.proofs.steps.compare_remaining.Goals as goal
use Rattle.walk_model.proofs.steps.compare_remaining.Goals.{then-loop-a-test+then-b-gt0+else-eq, then-loop-a-test+else-b-gt0, else-loop-a-test}

pub loop-a-preserved : goal.loop-a-preserved
loop-a-preserved c =
    let same : c.loop-a.a.dir ≡ c.loop-a.b.dir = search rules in
    same_after _ _ c.loop-a.a c.loop-a.b _ _ _ c.min-common.ensures same c.after-a.ensures.ready c.after-b.ensures.ready c.after-a.ensures.left c.after-b.ensures.left c.loop-a.invariant

pub loop-a-smaller : goal.loop-a-smaller
loop-a-smaller c = fewer_after c.loop-a.a c.after-a.result c.min-common.result (omega arith) (omega arith) c.after-a.ensures.left

pub returns-in-true-true : goal.returns-in-true-true
returns-in-true-true c =
    let differ : c.loop-a.a.dir ≢ c.loop-a.b.dir =
    elim c.loop-a-test.branch [
      | then-loop-a-test+then-b-gt0+else-eq w ↦ search rules
      | then-loop-a-test+else-b-gt0 w ↦ absurd (omega arith)
      | else-loop-a-test w ↦ absurd (omega arith)
    ] in
    let found : c.cmp.result ≡ dir_cmp c.loop-a.a.dir c.loop-a.b.dir = search rules in
    found ∙ sym (slice_cmp-different _ _ _ _ _ _ c.in-true-true.is-0 c.in-true-true.is-1 differ) ∙ c.loop-a.invariant.order
