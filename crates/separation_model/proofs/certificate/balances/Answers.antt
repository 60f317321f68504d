-- The goals of `balances` that the check leaves.
use Rattle.std.proofs.Common.{◌≡◌, ℤ, pos, ◌-ℤ◌, ◌≤ℤ◌, arith, ap, sym, ◌∙◌, FitsSigned, to_z, of_z}
use Rattle.std.specs.Int.{w128}
use Rattle.std.proofs.lemmas.Int.{ints, to_z-of_z}
use Rattle.std.proofs.lemmas.Bool.{eqb-true, eq-eqb}
use Rattle.separation_model.proofs.Arithmetic.Bits.{same_bits}
use Rattle.separation_model.proofs.certificate.balances.Goals as goal

difference_fits : (r l : ℤ) → pos 0 ≤ℤ r → pos 0 ≤ℤ l → FitsSigned w128 r → FitsSigned w128 l → FitsSigned w128 (r -ℤ l)
difference_fits r l low also fits fit = omega (arith, ints)

pub returns-then-rightward-leftward-le-MOST_TOGETHER : goal.returns-then-rightward-leftward-le-MOST_TOGETHER
returns-then-rightward-leftward-le-MOST_TOGETHER c =
    let d = c.args.displacement in
    let r = c.args.rightward in
    let l = c.args.leftward in
    let apart = to_z w128 (of_z w128 r) -ℤ to_z w128 (of_z w128 l) in
    let apart_is : apart ≡ r -ℤ l = ap (λ v. v -ℤ to_z w128 (of_z w128 l)) (to_z-of_z w128 r c.ranges.rightward) ∙ ap (λ v. r -ℤ v) (to_z-of_z w128 l c.ranges.leftward) in
    let fits = difference_fits r l c.requires.rightward c.requires.leftward c.ranges.rightward c.ranges.leftward in (
      λ t. (omega (arith, ints), same_bits w128 d (r -ℤ l) c.ranges.displacement fits (eqb-true (of_z w128 d) (of_z w128 apart) t ∙ ap (of_z w128) apart_is)),
      λ h. eq-eqb (of_z w128 d) (of_z w128 apart) (ap (of_z w128) (h.1 ∙ sym apart_is)),
    )
