-- In no direction tried so far does a walk go on.
use Rattle.std.proofs.Common.{ℕ, ◌<◌, get_or}
use Rattle.plane_geom.specs.declared.point.Dir.TheVariants.{East}
use Rattle.route_search.specs.Known.{knowledge_of}
use Rattle.route_search.specs.Following.{IsNoneIn}
use Rattle.route_search.proofs.follow.Follower.next.Given as goal

abbrev pub invariant-loop-dir : goal.invariant-loop-dir
invariant-loop-dir l = (k : ℕ) → k < l.dir-index → IsNoneIn l.self.problem.now (knowledge_of l.self) l.standing (get_or l.dir-items k East)
