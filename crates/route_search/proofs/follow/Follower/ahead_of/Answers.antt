-- By the point of the crossing.
use Rattle.std.proofs.Common.{sym, ◌∙◌}
use Rattle.route_search.proofs.Ahead.Knowing.{known_is}
use Rattle.route_search.proofs.follow.Follower.ahead_of.Goals as goal

pub ahead_of-requires-clause-here : goal.ahead_of-requires-clause-here
ahead_of-requires-clause-here c = (c.requires.place.at, c.requires.place.here)

pub returns : goal.returns
returns c = c.ahead_of.ensures c.requires.place.at c.requires.place.here ∙ sym (known_is c.args.self.now c.requires.knowing c.args.place.now c.requires.place.at c.requires.place.here)
