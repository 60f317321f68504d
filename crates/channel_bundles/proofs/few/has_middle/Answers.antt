-- The rule's right item is among the runs, and the link from it leads to the later one.
use Rattle.std.proofs.Common.{refl, w64, FitsSigned}
use Rattle.std.proofs.lemmas.Int.{to_z-of_z}
use Rattle.channel_bundles.proofs.few.has_middle.Goals as goal

pub returns-then-is_apart : goal.returns-then-is_apart
returns-then-is_apart c =
    let fits : FitsSigned w64 c.args.nudge = c.ranges.nudge in
    let linked = c.if-is_apart.ensures refl in
    λ _. (c.loop-k.k, c.loop-k.auto.k, c.loop-k-test.true, record { spaced = c.if-rule.true; linked = simp to_z-of_z at linked })
