-- The runs before `k` have followed.
use Rattle.nudge_phases.proofs.Following.{IsFollowing}
use Rattle.nudge_phases.proofs.moves.follow.Given as goal

abbrev pub invariant-loop-k : goal.invariant-loop-k
invariant-loop-k l = IsFollowing l.way l.initial.runs l.runs l.k
