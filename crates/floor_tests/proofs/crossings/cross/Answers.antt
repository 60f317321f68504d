-- Lines that cross meet, and where no crossing was found they have none.
use Rattle.std.proofs.Common.{refl, sym, ap, subst}
use Rattle.std.specs.Prelude.{is_some}
use Rattle.line_arena.specs.Arena.{StandsAt}
use Rattle.floor_tests.specs.Lines.{Cross}
use Rattle.floor_tests.proofs.Meeting.{meet, new_pair}
use Rattle.floor_tests.proofs.crossings.cross.Goals as goal

pub put_crossing-requires-clause-meet : goal.put_crossing-requires-clause-meet
put_crossing-requires-clause-meet c =
    let e = c.if-not-do_cross.ensures in
    let crosses : Cross c.args.down c.args.across = record {
      down_runs = e.down_runs refl;
      across_runs = e.across_runs refl;
      down_from = e.down_from refl;
      down_to = e.down_to refl;
      across_from = e.across_from refl;
      across_to = e.across_to refl;
    } in
    meet c.args.arena.now _ _ c.args.down c.args.across c.in-Some-line_at.ensures.found c.in-Some-line_at-2.ensures.found crosses

pub put_crossing-requires-clause-new_pair : goal.put_crossing-requires-clause-new_pair
put_crossing-requires-clause-new_pair c =
    let e = c.if-not-do_cross.ensures in
    let crosses : Cross c.args.down c.args.across = record {
      down_runs = e.down_runs refl;
      across_runs = e.across_runs refl;
      down_from = e.down_from refl;
      down_to = e.down_to refl;
      across_from = e.across_from refl;
      across_to = e.across_to refl;
    } in
    new_pair c.args.arena.now _ _ c.args.down c.args.across c.in-Some-line_at.ensures.found c.in-Some-line_at-2.ensures.found crosses
    (λ k stands. c.crossing_at.ensures.absent.0 (ap is_some c.in_default.is) k (subst (StandsAt c.args.arena.now k) (sym c.point_of.ensures) stands))
