-- The row is that of the line.
use Rattle.std.proofs.Common.{sym, subst, ◌∙◌, to_z-of_z}
use Rattle.std.specs.Prelude.{All}
use Rattle.exit_rows.specs.Exits.{IsSmallKept, least_at}
use Rattle.exit_rows.proofs.Written.{row_read}
use Rattle.exit_rows.proofs.rows.Rows.ahead_along.Goals as goal

pub least_at-requires-clause-small : goal.least_at-requires-clause-small
least_at-requires-clause-small c =
    subst (All IsSmallKept)
    (row_read c.args.self.now c.args.stage c.args.line c.args.heading c.row-at.result c.index.result.now c.requires.room c.row-at.ensures.exact c.row-at.ensures.within c.index.ensures ∙ sym c.deref.ensures.value)
    c.requires.small

pub returns : goal.returns
returns c =
    let same = row_read c.args.self.now c.args.stage c.args.line c.args.heading c.row-at.result c.index.result.now c.requires.room c.row-at.ensures.exact c.row-at.ensures.within c.index.ensures ∙ sym c.deref.ensures.value in
    c.least_at.ensures ∙ (λ i. least_at (sym same i) (to_z-of_z c.ranges.reach i))
