-- The routes so far have followed.
use Rattle.nudge_phases.proofs.Following.{AreFollowing}
use Rattle.nudge_phases.proofs.moves.follow_all.Given as goal

abbrev pub invariant-loop-route : goal.invariant-loop-route
invariant-loop-route l = AreFollowing l.way l.initial.routes l.routes l.route-index
