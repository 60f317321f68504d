-- The row is that of the line.
use Rattle.std.proofs.Common.{◌≤ℤ◌, ◌<ℤ◌, sym, ap, subst, ◌∙◌, to_z-of_z, w64}
use Rattle.std.specs.Prelude.{All}
use Rattle.exit_rows.specs.Exits.{IsSmallKept, stop_of}
use Rattle.exit_rows.specs.Rows.{kept_in}
use Rattle.exit_rows.proofs.Stops.{stop_after, undercut_before}
use Rattle.exit_rows.proofs.Written.{row_read}
use Rattle.exit_rows.proofs.rows.Rows.stop.Goals as goal

pub stop_of-requires-clause-small : goal.stop_of-requires-clause-small
stop_of-requires-clause-small c =
    subst (All IsSmallKept)
    (row_read c.args.self.now c.args.stage c.args.line c.args.heading c.row-at.result c.index.result.now c.requires.room c.row-at.ensures.exact c.row-at.ensures.within c.index.ensures ∙ sym c.deref.ensures.value)
    c.requires.small

pub returns-clause-exact : goal.returns-clause-exact
returns-clause-exact c =
    let same = row_read c.args.self.now c.args.stage c.args.line c.args.heading c.row-at.result c.index.result.now c.requires.room c.row-at.ensures.exact c.row-at.ensures.within c.index.ensures ∙ sym c.deref.ensures.value in
    to_z-of_z {w = w64} (record { sfits = c.stop_of.type_inv }) ∙ c.stop_of.ensures ∙ ap (λ row. stop_of row c.args.kept.now) (sym same)

pub returns-clause-from : goal.returns-clause-from
returns-clause-from c =
    subst (λ s. c.args.kept.now.from ≤ℤ s) (sym (returns-clause-exact c))
    (stop_after c.args.kept.now (kept_in c.args.self.now c.args.stage c.args.line c.args.heading) c.args.kept.now.from)

pub returns-clause-undercut : goal.returns-clause-undercut
returns-clause-undercut c z low high =
    undercut_before c.args.kept.now (kept_in c.args.self.now c.args.stage c.args.line c.args.heading) z low (subst (λ s. z <ℤ s) (returns-clause-exact c) high)
