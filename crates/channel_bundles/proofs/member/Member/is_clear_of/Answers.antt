-- What is read is what was given, and the sum fits.
use Rattle.std.proofs.Common.{◌≡◌, ◌↔◌, ℤ, ◌+ℤ◌, ◌≤ℤ◌, IsTrue, FitsSigned, w64, to_z, of_z, arith, ap, ◌∙◌}
use lib.Signed.{le_z}
use Rattle.std.proofs.lemmas.Int.{ints, to_z-of_z}
use Rattle.plane_geom.specs.Point.{IsCoordinate}
use Rattle.plane_geom.proofs.Signed.{coordinate_fits}
use Rattle.channel_bundles.specs.Links.{IsNudge}
use Rattle.channel_bundles.proofs.member.Member.is_clear_of.Goals as goal

sum_fits : (high nudge : ℤ) → IsCoordinate high → IsNudge nudge → FitsSigned w64 (high +ℤ nudge)
sum_fits high nudge h k = omega (arith, ints, h.low, h.high, k.low, k.high)

test_is : (a b x y : ℤ) → a ≡ x → b ≡ y → IsTrue (le_z a b) ↔ (x ≤ℤ y)
test_is a b x y e f = (λ t. grind (arith, ints), λ h. grind (arith, ints))

pub returns : goal.returns
returns c =
    let high = c.requires.member.hi in
    let sum = ap (λ v. v +ℤ to_z w64 (of_z w64 c.args.nudge)) (to_z-of_z w64 c.args.self.now.high (coordinate_fits c.args.self.now.high high)) ∙ ap (λ v. c.args.self.now.high +ℤ v) (to_z-of_z w64 c.args.nudge c.ranges.nudge) in
    let sum_is = ap (λ v. to_z w64 (of_z w64 v)) sum ∙ to_z-of_z w64 (c.args.self.now.high +ℤ c.args.nudge) (sum_fits c.args.self.now.high c.args.nudge high c.requires.nudge) in
    test_is _ _ _ _ sum_is (to_z-of_z w64 c.args.low c.ranges.low)
