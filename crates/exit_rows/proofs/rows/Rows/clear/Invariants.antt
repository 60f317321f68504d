-- Rows with exits are among those that are still to be emptied.
use Rattle.std.proofs.Common.{◌≡◌, length}
use Rattle.exit_rows.proofs.Written.{AreMarkedFrom}
use Rattle.exit_rows.proofs.rows.Rows.clear.Given as goal

abbrev pub invariant-loop-i : goal.invariant-loop-i
invariant-loop-i l = record {
  count : length l.self.rows.items ≡ length l.initial.self.rows.items;
  marked : l.self.marked.items ≡ l.initial.self.marked.items;
  lines : l.self.lines ≡ l.initial.self.lines;
  rest : AreMarkedFrom l.self.rows.items l.self.marked.items l.i;
}
