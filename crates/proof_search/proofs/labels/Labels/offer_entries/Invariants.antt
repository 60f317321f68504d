-- The entries so far were offered.
use Rattle.std.proofs.Common.{None, take}
use Rattle.std.specs.Prelude.{All}
use Rattle.proof_search.specs.Search.{IsEntryOffered, IsSearching}
use Rattle.proof_search.proofs.labels.Labels.offer_entries.Given as goal

abbrev pub invariant-loop-entry : goal.invariant-loop-entry
invariant-loop-entry l =
    IsSearching l.problem l.scope l.self None None × All (IsEntryOffered l.scope l.self) (take l.entry-index l.problem.entries.items)
