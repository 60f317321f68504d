-- Of the entries so far the least was found.
use Rattle.std.proofs.Common.{take}
use Rattle.route_search.specs.Known.{known_of}
use Rattle.route_search.specs.Starting.{IsLeastOf}
use Rattle.route_search.proofs.follow.Follower.first_entry.Given as goal

abbrev pub invariant-loop-entry : goal.invariant-loop-entry
invariant-loop-entry l = IsLeastOf (known_of l.self) (take l.entry-index l.self.problem.now.entries.items) l.best
