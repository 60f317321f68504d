-- The first walk has been followed to where it stands, and each step leaves less ahead.
use Rattle.walk_model.specs.Order.{Triple}
use Rattle.route_search.specs.Known.{knowledge_of}
use Rattle.route_search.specs.Starting.{EntersAt}
use Rattle.route_search.proofs.Tracing.Following.{IsFollowing}
use Rattle.route_search.proofs.follow.Follower.follow.Given as goal

abbrev pub invariant-loop-dir : goal.invariant-loop-dir
invariant-loop-dir l = (t : Triple) × (e : EntersAt l.self.problem.now (knowledge_of l.self) l.entry l.ahead t) × IsFollowing l.self.problem.now (knowledge_of l.self) t e.way l.standing l.points.items

abbrev pub decreases-loop-dir : goal.decreases-loop-dir
decreases-loop-dir l = l.standing.ahead.cost
