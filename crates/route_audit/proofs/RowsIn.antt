-- Rows at crossings of an arena are rows at crossings of its floor; entries and endings stand in it.
use Rattle.std.proofs.Common.{◌≡◌, ℕ, All, length, get_or, sym, subst, arith}
use Rattle.std.proofs.lemmas.List.Elements.{Contains-get_or}
use Rattle.plane_geom.specs.declared.floor.Floor.{Floor}
use Rattle.line_arena.specs.Arena.{Arena, IsArena, StandsAt}
use Rattle.line_arena.specs.Stands.{StandsFor}
use Rattle.walk_model.specs.declared.task.Task.{Task}
use Rattle.search_problem.specs.declared.problem.Problem.{Problem}
use Rattle.search_problem.specs.Problems.{IsReady}
use Rattle.exit_spread.proofs.Sizes.{small_ending}
use Rattle.proof_model.specs.declared.proof.Claim.{Claim}
use Rattle.proof_model.specs.declared.proof.LabelRow.{LabelRow}
use Rattle.proof_model.specs.Rules.{IsRow}
use Rattle.proof_model.proofs.Bridge.{crossing_at, crossing_of}
use Rattle.route_audit.specs.Ends.{IsEndingIn, IsEntryIn}
use Rattle.route_audit.specs.Rows.{IsRowIn}

module _ (floor : Floor) (a : Arena) (arena : IsArena a) (stands : StandsFor floor a) (task : Task) (last : ℕ) (long : length task.via ≡ last)
    (claim : Claim) (r : LabelRow) where
  pub row_in : IsRow floor task claim r → IsRowIn a last claim r
  row_in row = record {
    fit = record { stage = omega (arith, row.stage, long); some = row.some; right = λ h label is. (row.small h label is, row.right h label is) };
    crossing = crossing_at floor a arena stands r.at row.crossing;
  }

  pub row_on : IsRowIn a last claim r → IsRow floor task claim r
  row_on row = record {
    crossing = crossing_of floor a arena stands row.crossing.0 r.at row.crossing.1;
    stage = omega (arith, row.fit.stage, long);
    some = row.fit.some;
    right = λ h label is. (row.fit.right h label is).1;
    small = λ h label is. (row.fit.right h label is).0;
  }

module _ (p : Problem) (ready : IsReady p) where
  pub entries_in : All (IsEntryIn p.arena.now (length p.task.now.via)) p.entries.items
  entries_in k d within =
      let e = get_or p.entries.items k d in
      let of = (ready.entries.sound k d within).2 in
      record { stage = of.enters.stage.within; here = subst (StandsAt p.arena.now e.place.crossing) (sym of.port) of.enters.here }

  pub endings_in : All (IsEndingIn p.arena.now) p.endings.items
  endings_in k d within =
      let e = get_or p.endings.items k d in
      let small = small_ending p e ready (Contains-get_or p.endings.items k d within) in
      record { here = subst (StandsAt p.arena.now e.crossing) (sym small.of.port) small.of.here; rest = small.rest }
