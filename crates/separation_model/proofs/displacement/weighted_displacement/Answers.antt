-- What is read is what was given, and each step fits, since the place and the want are on the sheet.
use Rattle.std.proofs.Common.{◌≡◌, ℕ, ◌*◌, ◌<◌, ◌≤◌, ◌^◌, ℤ, pos, ◌*ℤ◌, ◌-ℤ◌, arith, ap, sym, subst, ◌∙◌, FitsSigned, to_z, of_z}
use Rattle.std.specs.Int.{w64, w128}
use Rattle.std.proofs.lemmas.Int.{ints, to_z-of_z}
use Rattle.plane_geom.specs.Point.{IsCoordinate}
use Rattle.separation_model.specs.Apart.{FractionIsOnSheet}
use Rattle.separation_model.proofs.Verifying.Conditions.{displacement_fits_as, displacement_as, want_over}
use Rattle.separation_model.proofs.displacement.weighted_displacement.Goals as goal
use Rattle.separation_model.proofs.displacement.weighted_displacement.Goals.{After-numerator_over}

place_fits : (den : ℕ) (num : ℤ) → den < 2 ^ 64 → FractionIsOnSheet den num → FitsSigned w128 num
place_fits den num small p = omega (arith, ints, p.low, p.high)

away_fits : (den : ℕ) (num limit : ℤ) → den < 2 ^ 64 → FractionIsOnSheet den num → FractionIsOnSheet den limit → FitsSigned w128 (num -ℤ limit)
away_fits den num limit small p q = omega (arith, ints, p.low, p.high, q.low, q.high)

twice_fits : (weight : ℕ) (f : ℤ) → weight ≤ 4 → f ≡ pos weight → FitsSigned w128 (pos 2 *ℤ to_z w128 (of_z w128 f))
twice_fits weight f few e = omega (arith, ints)

twice_read : (weight : ℕ) (f : ℤ) → weight ≤ 4 → f ≡ pos weight → to_z w128 (of_z w128 (pos 2 *ℤ to_z w128 (of_z w128 f))) ≡ pos (2 * weight)
twice_read weight f few e = omega (arith, ints)

limit_is : (c : After-numerator_over) → c.numerator_over.result ≡ c.args.want *ℤ pos c.args.den
limit_is c = c.numerator_over.ensures ∙ ap (λ x. x *ℤ pos c.args.den) (to_z-of_z w64 c.args.want c.ranges.want)

limit : (c : After-numerator_over) → FractionIsOnSheet c.args.den c.numerator_over.result
limit c = want_over c.args.want c.args.den c.numerator_over.result c.requires.want c.requires.place.positive (limit_is c)

away_is : (c : After-numerator_over) → to_z w128 (of_z w128 c.args.num) -ℤ to_z w128 (of_z w128 c.numerator_over.result) ≡ c.args.num -ℤ c.numerator_over.result
away_is c =
    ap (λ v. v -ℤ to_z w128 (of_z w128 c.numerator_over.result)) (to_z-of_z w128 c.args.num c.ranges.num)
    ∙ ap (λ v. c.args.num -ℤ v) (to_z-of_z w128 c.numerator_over.result (place_fits c.args.den c.numerator_over.result c.ranges.den.fits (limit c)))

fits : (c : After-numerator_over) → FitsSigned w128 (c.args.num -ℤ c.numerator_over.result)
fits c = away_fits c.args.den c.args.num c.numerator_over.result c.ranges.den.fits c.requires.place (limit c)

away_read : (c : After-numerator_over) → to_z w128 (of_z w128 (to_z w128 (of_z w128 c.args.num) -ℤ to_z w128 (of_z w128 c.numerator_over.result))) ≡ c.args.num -ℤ c.numerator_over.result
away_read c = ap (λ v. to_z w128 (of_z w128 v)) (away_is c) ∙ to_z-of_z w128 (c.args.num -ℤ c.numerator_over.result) (fits c)

pub numerator_over-requires-clause-coordinate : goal.numerator_over-requires-clause-coordinate
numerator_over-requires-clause-coordinate c = subst IsCoordinate (sym (to_z-of_z w64 c.args.want c.ranges.want)) c.requires.want

pub overflow_sub-away : goal.overflow_sub-away
overflow_sub-away c = subst (FitsSigned w128) (sym (away_is c)) (fits c)

pub overflow_mul-result : goal.overflow_mul-result
overflow_mul-result c = twice_fits c.args.weight c.from.result c.requires.weight c.from.ensures

pub overflow_mul-result-2 : goal.overflow_mul-result-2
overflow_mul-result-2 c =
    let before = (goal.at.overflow_mul-result-2 c).After-numerator_over in
    displacement_fits_as c.args.weight c.args.den c.args.num c.numerator_over.result _ _ c.requires.weight c.ranges.den.fits c.requires.place (limit before)
    (twice_read c.args.weight c.from.result c.requires.weight c.from.ensures) (away_read before)

pub returns : goal.returns
returns c =
    let before = (goal.at.returns c).After-numerator_over in
    displacement_as c.args.weight c.args.den c.args.num c.args.want c.numerator_over.result _ _ c.requires.weight c.ranges.den.fits c.requires.place (limit before) (limit_is before)
    (twice_read c.args.weight c.from.result c.requires.weight c.from.ensures) (away_read before)
