-- One row on.
use Rattle.std.proofs.Common.{◌++◌, map, refl}
use Rattle.proof_text.specs.Lines.{ended_line, text_of_lines}
use Rattle.proof_text.specs.Text.{row_line}
use Rattle.proof_text.proofs.Writing.{written_on}
use Rattle.proof_text.proofs.write.push_rows.Goals as goal

pub loop-row-preserved : goal.loop-row-preserved
loop-row-preserved c =
    written_on (λ r. ended_line (row_line r)) (λ rs. text_of_lines (map row_line rs)) (λ r rs. refl)
    (c.args.out.now.items ++ text_of_lines (map row_line c.args.rows.now)) c.loop-row.out.items
    c.push_row_line.new.out.items c.args.rows.now c.loop-row.row-index _
    c.loop-row-test.true c.loop-row.invariant c.in_ok-push_row_line.ensures
