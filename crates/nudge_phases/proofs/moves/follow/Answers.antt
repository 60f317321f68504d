-- One more run follows.
use Rattle.std.proofs.Common.{arith, refl}
use Rattle.nudge_phases.proofs.Following.{following_more}
use Rattle.nudge_phases.proofs.moves.follow.Goals as goal

pub loop-k-preserved : goal.loop-k-preserved
loop-k-preserved c =
    following_more c.args.way c.args.runs.now c.loop-k.runs c.loop-k.k c.loop-k.invariant _ c.followed.result (let count = c.loop-k.invariant.count in let h = c.loop-k-test.true in omega (arith, count, h)) refl c.followed.ensures
