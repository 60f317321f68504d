-- The consequence of both together.
use Rattle.route_search.specs.Known.{knowledge_of}
use Rattle.route_search.proofs.Tracing.Tails.{next_from, none_from}
use Rattle.route_search.proofs.follow.Follower.next_in.Goals as goal

pub returns-clause-is : goal.returns-clause-is
returns-clause-is c = next_from c.args.self.now.problem.now (knowledge_of c.args.self.now) c.args.standing.now c.args.dir c.requires.knowing.ready.arena c.tail_in-tail.result c.move_in-step.result c.tail_in-tail.ensures c.move_in-step.ensures.is c.move_in-step.ensures.none c.joined.result c.joined.ensures.next

pub returns-clause-none : goal.returns-clause-none
returns-clause-none c none = none_from c.args.self.now.problem.now (knowledge_of c.args.self.now) c.args.standing.now c.args.dir c.requires.knowing.ready.arena c.tail_in-tail.result c.move_in-step.result c.tail_in-tail.ensures c.move_in-step.ensures.is c.move_in-step.ensures.none (c.joined.ensures.none none)
