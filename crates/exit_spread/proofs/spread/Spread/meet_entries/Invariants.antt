-- No candidate was added.
use Rattle.line_lists.specs.Lists.{number_of}
use Rattle.exit_spread.specs.Propagating.{Adds}
use Rattle.std.proofs.Common.{◌≡◌}
use Rattle.exit_spread.proofs.spread.Spread.meet_entries.Given as goal

abbrev pub invariant-loop-entry : goal.invariant-loop-entry
invariant-loop-entry l = record {
  rows : l.self.rows ≡ l.initial.self.rows;
  adds : Adds l.problem (number_of l.lists) l.initial.self l.self 0;
}
