-- In order, so that none goes on in an earlier direction.
use Rattle.plane_geom.specs.declared.point.Dir.{Dir}
use Rattle.route_search.specs.Known.{knowledge_of}
use Rattle.route_search.specs.Following.{IsNoneIn}
use Rattle.route_search.proofs.Moving.Directions.{each, each_before}
use Rattle.route_search.proofs.follow.Follower.next.Goals as goal

pub returns-in-Some-clause-is : goal.returns-in-Some-clause-is
returns-in-Some-clause-is c = record {
  next = c.in-Some.ensures.is;
  none_before = λ (e : Dir) less. each_before (λ d. IsNoneIn c.args.self.now.problem.now (knowledge_of c.args.self.now) c.args.standing.now d) c.loop-dir.dir-index c.loop-dir.invariant _ e c.loop-dir-test.true less;
}

pub returns-clause-none : goal.returns-clause-none
returns-clause-none c none = each (λ d. IsNoneIn c.args.self.now.problem.now (knowledge_of c.args.self.now) c.args.standing.now d) c.loop-dir.dir-index c.loop-dir.invariant c.loop-dir-test.false
