-- The row is that of the line.
use Rattle.std.proofs.Common.{sym, subst, ◌∙◌}
use Rattle.std.specs.Prelude.{All, ◌↔◌, IsTrue}
use Rattle.exit_rows.specs.Exits.{IsLate, IsSmallKept}
use Rattle.exit_rows.proofs.Written.{row_read}
use Rattle.exit_rows.proofs.rows.Rows.is_late.Goals as goal

pub is_late-requires-clause-small : goal.is_late-requires-clause-small
is_late-requires-clause-small c =
    subst (All IsSmallKept)
    (row_read c.args.self.now c.args.stage c.args.line c.args.heading c.row-at.result c.index.result.now c.requires.room c.row-at.ensures.exact c.row-at.ensures.within c.index.ensures ∙ sym c.deref.ensures.value)
    c.requires.small

pub returns : goal.returns
returns c =
    let same = row_read c.args.self.now c.args.stage c.args.line c.args.heading c.row-at.result c.index.result.now c.requires.room c.row-at.ensures.exact c.row-at.ensures.within c.index.ensures ∙ sym c.deref.ensures.value in
    subst (λ row. IsTrue c.is_late.result ↔ IsLate row c.args.kept.now) (sym same) c.is_late.ensures
