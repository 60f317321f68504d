-- The product of a coordinate and a denominator: what is read is what was given, and the product fits.
use Rattle.std.proofs.Common.{◌≡◌, ℕ, ◌<◌, ◌^◌, ℤ, pos, ◌*ℤ◌, arith, ap, sym, subst, ◌∙◌, FitsSigned, to_z, of_z, lit<}
use Rattle.std.specs.Int.{w64, w128}
use Rattle.std.proofs.lemmas.Int.{ints, to_z-of_z, fits_signed_mul}
use Rattle.plane_geom.specs.Point.{IsCoordinate}
use Rattle.separation_model.proofs.displacement.numerator_over.Goals as goal

coordinate_read : (x a : ℤ) → x ≡ to_z w64 (of_z w64 a) → FitsSigned w64 a → to_z w128 (of_z w128 x) ≡ a
coordinate_read x a e f =
    let x_is : x ≡ a = e ∙ to_z-of_z w64 a f in
    let fits : FitsSigned w128 x = omega (arith, ints) in
    to_z-of_z w128 x fits ∙ x_is

den_read : (y : ℤ) (d : ℕ) → y ≡ pos d → d < 2 ^ 64 → to_z w128 (of_z w128 y) ≡ pos d
den_read y d e f = omega (arith, ints)

product_fits : (a : ℤ) (d : ℕ) → IsCoordinate a → d < 2 ^ 64 → FitsSigned w128 (a *ℤ pos d)
product_fits a d h k = fits_signed_mul w128 a (pos d) 2000000000 (2 ^ 64) (omega (arith, ints, h.low, h.high)) (omega (arith, k)) (lit< tt)

product_is : (c : goal.After-from-2) → to_z w128 (of_z w128 c.from.result) *ℤ to_z w128 (of_z w128 c.from-2.result) ≡ c.args.coordinate *ℤ pos c.args.den
product_is c =
    ap (λ v. v *ℤ to_z w128 (of_z w128 c.from-2.result)) (coordinate_read c.from.result c.args.coordinate c.from.ensures c.ranges.coordinate)
    ∙ ap (λ v. c.args.coordinate *ℤ v) (den_read c.from-2.result c.args.den c.from-2.ensures c.ranges.den.fits)

fits : (c : goal.After-from-2) → FitsSigned w128 (to_z w128 (of_z w128 c.from.result) *ℤ to_z w128 (of_z w128 c.from-2.result))
fits c = subst (λ v. FitsSigned w128 v) (sym (product_is c)) (product_fits c.args.coordinate c.args.den c.requires.coordinate c.ranges.den.fits)

pub overflow_mul-result : goal.overflow_mul-result
overflow_mul-result c = fits c

pub returns : goal.returns
returns c = to_z-of_z w128 _ (fits c) ∙ product_is c
