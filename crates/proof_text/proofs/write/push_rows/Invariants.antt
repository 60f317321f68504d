-- What is written so far, and the rows that are left, give the whole.
use Rattle.std.proofs.Common.{◌≡◌, ◌++◌, drop, map}
use Rattle.proof_text.specs.Lines.{text_of_lines}
use Rattle.proof_text.specs.Text.{row_line}
use Rattle.proof_text.proofs.write.push_rows.Given as goal

abbrev pub invariant-loop-row : goal.invariant-loop-row
invariant-loop-row l = l.out.items ++ text_of_lines (map row_line (drop l.row-index l.rows)) ≡ l.fn.out.items ++ text_of_lines (map row_line l.rows)
