-- One entry more is found; in the end all are.
use Rattle.std.proofs.Common.{All, subst, refl}
use Rattle.std.proofs.lemmas.List.{take_all}
use Rattle.route_audit.specs.Ends.{IsEntryFound}
use Rattle.route_audit.proofs.ends.are_entries_found.Goals as goal

pub returns : goal.returns
returns c = (
  λ _. subst (All (IsEntryFound c.args.claim.now c.args.labels.now.rows.now))
      (take_all c.loop-entry.entry-index c.args.entries.now c.loop-entry-test.false) c.loop-entry.invariant,
  λ _. refl,
)
