-- One corner more is one run more.
use Rattle.std.proofs.Common.{◌∙◌, sym, subst}
use Rattle.segment_order.specs.Run.{AreRunsOf}
use Rattle.segment_order.proofs.Runs.{are_runs, first_runs, all_runs, more_runs}
use Rattle.segment_order.proofs.run.runs_of.Goals as goal

pub loop-k-init : goal.loop-k-init
loop-k-init g c = c.in_ok-runs.ensures.items ∙ first_runs _ _ _

pub loop-k-preserved : goal.loop-k-preserved
loop-k-preserved g c = more_runs _ c.loop-k.k c.args.points.now c.loop-k.runs.items _ _ _ c.loop-k.auto.k c.loop-k-test.true c.loop-k.invariant c.in_ok-push.ensures.items c.run_between.ensures

pub returns-clause-along : goal.returns-clause-along
returns-clause-along g c = c.loop-k.invariant ∙ all_runs _ _ _ _ c.loop-k-test.false

pub returns-clause-route : goal.returns-clause-route
returns-clause-route g c = λ corners. subst (AreRunsOf c.args.edge) (sym (c.loop-k.invariant ∙ all_runs _ _ _ _ c.loop-k-test.false)) (are_runs _ _ corners)
