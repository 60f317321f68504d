-- The first walk enters at the least entry; where nothing is known of any entry there is no walk.
use Rattle.std.proofs.Common.{refl}
use Rattle.route_search.specs.Known.{knowledge_of}
use Rattle.route_search.proofs.Ahead.Knowing.{all_exact}
use Rattle.route_search.proofs.Ahead.Starting.{first_enters, no_walk}
use Rattle.route_search.proofs.follow.Follower.route.Goals as goal

pub returns-in-None : goal.returns-in-None
returns-in-None c =
    no_walk c.args.self.now.problem.now (knowledge_of c.args.self.now) c.requires.ready (all_exact c.args.self.now c.requires) (c.in-None.ensures.none refl)

pub follow-requires-clause-enters : goal.follow-requires-clause-enters
follow-requires-clause-enters c =
    first_enters c.args.self.now.problem.now (knowledge_of c.args.self.now) c.requires.ready (all_exact c.args.self.now c.requires) c.in-Some.entry c.in-Some.ahead c.in-Some.ensures.least
