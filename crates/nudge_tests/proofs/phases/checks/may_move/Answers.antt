-- One run after another has been tried.
use Rattle.std.proofs.Common.{refl, arith, below_more}
use Rattle.nudge_tests.proofs.phases.checks.may_move.Goals as goal

pub loop-k-preserved : goal.loop-k-preserved
loop-k-preserved c = below_more _ _ c.loop-k.invariant (c.if-not-may_stand_if_movable.ensures refl)

pub returns : goal.returns
returns c = λ t. record { may = λ j h. c.loop-k.invariant j (omega (arith, c.len-k-end.ensures, c.args.route.now.runs.ok.0)) }
