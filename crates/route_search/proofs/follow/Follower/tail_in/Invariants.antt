-- So far the earliest of the tails of the endings before.
use Rattle.std.proofs.Common.{take}
use Rattle.route_search.specs.Following.{IsEarliest, IsTailIn}
use Rattle.route_search.proofs.follow.Follower.tail_in.Given as goal

abbrev pub invariant-loop-ending : goal.invariant-loop-ending
invariant-loop-ending l = IsEarliest (IsTailIn l.self.problem.now l.standing l.dir (take l.ending-index l.self.problem.now.endings.items)) l.best
