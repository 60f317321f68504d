-- The bundle has what its parts have.
use Rattle.std.proofs.Common.{refl, w64, FitsSigned, rules}
use Rattle.std.proofs.lemmas.Int.{to_z-of_z}
use Rattle.channel_bundles.proofs.bare.bundle_with.Goals as goal

pub returns : goal.returns
returns c =
    let fits : FitsSigned w64 c.args.nudge = search rules in
    simp to_z-of_z (record { items = c.in_ok-items_of.ensures; rules = refl; wanted = refl; runs = c.in_ok-own_runs.ensures })
