-- Entries, and what is known of them, are small.
use Rattle.std.proofs.Common.{sym, ◌∙◌}
use Rattle.route_search.specs.Known.{knowledge_of}
use Rattle.route_search.proofs.Ahead.Knowing.{all_attained}
use Rattle.route_search.proofs.Ahead.LeastEntries.{entry_is_place, entry_is_small, found_is_small}
use Rattle.route_search.proofs.follow.Follower.better.Goals as goal

pub ahead_of-requires-clause-place : goal.ahead_of-requires-clause-place
ahead_of-requires-clause-place c = entry_is_place c.args.self.now.problem.now c.requires.knowing.ready c.args.entry c.requires.entry

pub whole-requires-clause-entry : goal.whole-requires-clause-entry
whole-requires-clause-entry c = entry_is_small c.args.self.now.problem.now c.requires.knowing.ready c.args.entry c.requires.entry

pub whole-requires-clause-ahead : goal.whole-requires-clause-ahead
whole-requires-clause-ahead c = (all_attained c.args.self.now c.requires.knowing).small c.args.entry.place c.in-Some.ahead (sym c.ahead_of.ensures ∙ c.in-Some.is)

pub whole-requires-in-Some-found-clause-entry : goal.whole-requires-in-Some-found-clause-entry
whole-requires-in-Some-found-clause-entry c =
    (found_is_small c.args.self.now.problem.now (knowledge_of c.args.self.now) c.requires.knowing.ready (all_attained c.args.self.now c.requires.knowing) c.args.found (c.in-Some-found.other, c.in-Some-found.known) c.in-Some-found.is c.requires.found).0

pub whole-requires-in-Some-found-clause-ahead : goal.whole-requires-in-Some-found-clause-ahead
whole-requires-in-Some-found-clause-ahead c =
    (found_is_small c.args.self.now.problem.now (knowledge_of c.args.self.now) c.requires.knowing.ready (all_attained c.args.self.now c.requires.knowing) c.args.found (c.in-Some-found.other, c.in-Some-found.known) c.in-Some-found.is c.requires.found).1
