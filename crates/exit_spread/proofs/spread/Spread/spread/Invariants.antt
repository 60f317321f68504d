-- There is no exit at first, and each limit is greater than the last.
use Rattle.std.proofs.Common.{◌≤◌, ◌-◌}
use Rattle.line_lists.specs.Lists.{number_of}
use Rattle.search_problem.specs.Bounds.{most_cost}
use Rattle.exit_spread.specs.Searching.{AreNone, HasRooms}
use Rattle.exit_spread.proofs.spread.Spread.spread.Given as goal

abbrev pub invariant-loop-self : goal.invariant-loop-self
invariant-loop-self l = record {
  none : AreNone l.self;
  rooms : HasRooms l.problem (number_of l.lists) l.self;
  limit : l.limit ≤ most_cost;
}

abbrev pub decreases-loop-self : goal.decreases-loop-self
decreases-loop-self l = most_cost - l.limit
