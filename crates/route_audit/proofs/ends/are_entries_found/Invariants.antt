-- The entries so far are found.
use Rattle.std.proofs.Common.{take, All}
use Rattle.route_audit.specs.Ends.{IsEntryFound}
use Rattle.route_audit.proofs.ends.are_entries_found.Given as goal

abbrev pub invariant-loop-entry : goal.invariant-loop-entry
invariant-loop-entry l = All (IsEntryFound l.claim l.labels.rows.now) (take l.entry-index l.entries)
