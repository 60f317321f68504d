-- What the two tests say is what the contract asks.
use Rattle.std.proofs.Common.{refl, w64, FitsSigned}
use Rattle.std.proofs.lemmas.Int.{to_z-of_z}
use Rattle.channel_bundles.proofs.few.is_hidden.Goals as goal

pub returns-then-hides : goal.returns-then-hides
returns-then-hides c =
    let fits : FitsSigned w64 c.args.nudge = c.ranges.nudge in
    λ h. let linked = c.is_apart.ensures h in record { linked = simp to_z-of_z at linked; hides = c.if-hides.ensures refl }
