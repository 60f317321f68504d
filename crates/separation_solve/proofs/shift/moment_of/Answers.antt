-- What is read is what was given, and the difference and the product fit.
use Rattle.std.proofs.Common.{◌≡◌, ℕ, ◌≤◌, ℤ, pos, negsuc, ◌-ℤ◌, ◌*ℤ◌, ◌≤ℤ◌, FitsSigned, to_z, of_z, arith, ap, sym, subst, ◌∙◌}
use Rattle.std.proofs.lemmas.Int.{ints, to_z-of_z, fits_signed_mul}
use mir.Syntax.{w64, w128}
use Rattle.plane_geom.specs.Point.{IsCoordinate}
use Rattle.separation_solve.proofs.LightFractions.Spots.{cast_is}
use Rattle.separation_solve.proofs.shift.moment_of.Goals as goal

way_fits : (want offset : ℤ) → IsCoordinate want → negsuc 3999999999 ≤ℤ offset → offset ≤ℤ pos 4000000000 → FitsSigned w64 (want -ℤ offset)
way_fits want offset h low high = omega (arith, ints, h.low, h.high)

product_fits : (weight : ℕ) (want offset : ℤ) → weight ≤ 4 → IsCoordinate want → negsuc 3999999999 ≤ℤ offset → offset ≤ℤ pos 4000000000 → FitsSigned w128 (pos weight *ℤ (want -ℤ offset))
product_fits weight want offset few h low high =
    fits_signed_mul w128 (pos weight) (want -ℤ offset) 4 6000000000 (omega arith) (omega (arith, ints, h.low, h.high)) (omega arith)

wide : (want offset : ℤ) → IsCoordinate want → negsuc 3999999999 ≤ℤ offset → offset ≤ℤ pos 4000000000 → FitsSigned w128 (want -ℤ offset)
wide want offset h low high = omega (arith, ints, h.low, h.high)

whole : (weight : ℕ) → weight ≤ 4 → FitsSigned w128 (pos weight)
whole weight few = omega (arith, ints)

way_is : (want offset : ℤ) → FitsSigned w64 want → FitsSigned w64 offset → to_z w64 (of_z w64 want) -ℤ to_z w64 (of_z w64 offset) ≡ want -ℤ offset
way_is want offset fits also = ap (λ v. v -ℤ to_z w64 (of_z w64 offset)) (to_z-of_z w64 want fits) ∙ ap (λ v. want -ℤ v) (to_z-of_z w64 offset also)

product_is : (c : goal.After-from-2) → to_z w128 (of_z w128 c.from.result) *ℤ to_z w128 (of_z w128 c.from-2.result) ≡ pos c.args.weight *ℤ (c.args.want -ℤ c.args.offset)
product_is c =
    let fits = way_fits c.args.want c.args.offset c.requires.want c.requires.low c.requires.high in
    let way : c.from-2.result ≡ c.args.want -ℤ c.args.offset = c.from-2.ensures ∙ ap (λ v. to_z w64 (of_z w64 v)) (way_is c.args.want c.args.offset c.ranges.want c.ranges.offset) ∙ to_z-of_z w64 (c.args.want -ℤ c.args.offset) fits in
    ap (λ v. v *ℤ to_z w128 (of_z w128 c.from-2.result)) (cast_is w128 c.from.result (pos c.args.weight) c.from.ensures (whole c.args.weight c.requires.weight))
    ∙ ap (λ v. pos c.args.weight *ℤ v) (cast_is w128 c.from-2.result (c.args.want -ℤ c.args.offset) way (wide c.args.want c.args.offset c.requires.want c.requires.low c.requires.high))

fits : (c : goal.After-from-2) → FitsSigned w128 (pos c.args.weight *ℤ (c.args.want -ℤ c.args.offset))
fits c = product_fits c.args.weight c.args.want c.args.offset c.requires.weight c.requires.want c.requires.low c.requires.high

pub overflow_sub-want : goal.overflow_sub-want
overflow_sub-want c =
    subst (FitsSigned w64) (sym (way_is c.args.want c.args.offset c.ranges.want c.ranges.offset)) (way_fits c.args.want c.args.offset c.requires.want c.requires.low c.requires.high)

pub overflow_mul-result : goal.overflow_mul-result
overflow_mul-result c = subst (FitsSigned w128) (sym (product_is c)) (fits c)

pub returns : goal.returns
returns c = ap (λ v. to_z w128 (of_z w128 v)) (product_is c) ∙ to_z-of_z w128 (pos c.args.weight *ℤ (c.args.want -ℤ c.args.offset)) (fits c)
