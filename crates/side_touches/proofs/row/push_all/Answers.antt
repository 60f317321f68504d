-- The rows of one more line.
use Rattle.std.proofs.Common.{◌+◌, take, sym, subst}
use Rattle.side_touches.specs.Rows.{AreAllRows}
use Rattle.side_touches.proofs.Pieces.{one_line_more}
use Rattle.side_touches.proofs.row.push_all.Goals as goal

pub loop-line-preserved : goal.loop-line-preserved
loop-line-preserved c = λ solids are.
    let lines = c.args.lines.now in
    let i = c.loop-line.line-index in
    let new = c.push_rows.new.extents.items in
    subst (AreAllRows solids (take (i + 1) lines) new) (sym c.in_ok-push.ensures.items)
    (one_line_more solids lines c.loop-line.extents.items new c.loop-line.rows.items i _ c.in_ok-push_rows.field-0 c.loop-line-test.true c.in_ok-push_rows.ensures.goes_on
    (c.loop-line.invariant solids are) (c.in_ok-push_rows.ensures.rows solids are))
