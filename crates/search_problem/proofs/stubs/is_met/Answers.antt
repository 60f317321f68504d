-- A stub is straight.
use Rattle.std.proofs.Common.{subst, sym}
use Rattle.plane_geom.specs.Point.{IsStraight}
use Rattle.plane_geom.proofs.Headings.{forward_straight}
use Rattle.walk_model.specs.Choice.{stub_length}
use Rattle.search_problem.proofs.stubs.is_met.Goals as goal

pub meets-requires-clause-straight : goal.meets-requires-clause-straight
meets-requires-clause-straight c =
    let s = c.args.choice.now in
    subst (IsStraight s.pin) (sym c.requires.choice.straight) (forward_straight s.dir (stub_length s) s.pin)
