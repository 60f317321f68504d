-- The stubs are offered; each candidate that is removed leaves less to be done.
use Rattle.std.proofs.Common.{◌≡◌, None, All}
use Rattle.line_lists.specs.Lists.{number_of}
use Rattle.exit_spread.specs.Searching.{IsSearching, IsStubOffered, weight}
use Rattle.exit_spread.proofs.spread.Spread.spread_within.Given as goal

abbrev pub invariant-loop-candidate : goal.invariant-loop-candidate
invariant-loop-candidate l = record {
  limit : l.self.limit ≡ l.limit;
  searching : IsSearching l.problem (number_of l.lists) l.self None None;
  stubs : All (IsStubOffered l.problem (number_of l.lists) l.self None) l.problem.endings.items;
}

abbrev pub decreases-loop-candidate : goal.decreases-loop-candidate
decreases-loop-candidate l = weight l.problem l.lists l.self
