-- The next checkpoint is read off the list.
use Rattle.std.proofs.Common.{sym, ap, ◌∙◌, rules, FitsSigned, w64}
use Rattle.std.proofs.lemmas.Int.{to_z-of_z}
use Rattle.exit_spread.specs.Offers.{from_after}
use Rattle.plane_geom.specs.Point.{PointIsOnSheet}
use Rattle.walk_laws.proofs.OnKeptLines.Lines.{chosen}
use Rattle.exit_spread.proofs.run.counts_from.Goals as goal

pub counts_after-requires-clause-next_within : goal.counts_after-requires-clause-next_within
counts_after-requires-clause-next_within c = chosen PointIsOnSheet c.args.via.now c.args.stage c.in-Some.next (sym c.next_checkpoint.ensures ∙ c.in-Some.is) c.requires.via

pub returns-in-Some-clause-exact : goal.returns-in-Some-clause-exact
returns-in-Some-clause-exact c =
    let fits : FitsSigned w64 c.counts_after.result = search rules in
    to_z-of_z w64 c.counts_after.result fits ∙ c.counts_after.ensures.exact ∙ ap (λ o. from_after o c.args.heading c.args.at) (sym c.in-Some.is ∙ c.next_checkpoint.ensures)
