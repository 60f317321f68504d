-- The entries are offered; each candidate that is taken out leaves less to be done.
use Rattle.std.proofs.Common.{None}
use Rattle.std.specs.Prelude.{All}
use Rattle.proof_search.specs.Search.{IsEntryOffered, IsSearching, weight}
use Rattle.proof_search.proofs.labels.Labels.spread.Given as goal

abbrev pub invariant-loop-candidate : goal.invariant-loop-candidate
invariant-loop-candidate l =
    IsSearching l.problem l.scope l.self None None × All (IsEntryOffered l.scope l.self) l.problem.entries.items

abbrev pub decreases-loop-candidate : goal.decreases-loop-candidate
decreases-loop-candidate l = weight l.scope l.self
