-- Both parts are small, so that the code's product and sum are those of whole numbers.
use Rattle.std.proofs.Common.{◌/◌, ◌<◌, ◌^◌, pos, ◌+ℤ◌, ◌*ℤ◌, to_z-of_z, arith, refl}
use Rattle.std.proofs.Math.Nat.{div-le_self}
use Rattle.separation_solve.proofs.LightFractions.Fractions.{product_read, ratio_fits, ratio_reduced, ratio_value, sum_read}
use Rattle.separation_solve.proofs.fraction.Fraction.mixed.Goals as goal
use Rattle.separation_solve.proofs.fraction.Fraction.mixed.Goals.{After-greatest_common_divisor-common}

-- the parts, by their common divisor
small : (c : After-greatest_common_divisor-common) → (c.args.den / c.greatest_common_divisor-common.result < 2 ^ 64) × (c.args.rest / c.greatest_common_divisor-common.result < 2 ^ 64)
small c =
    let common = c.greatest_common_divisor-common.result in
    (omega (arith, c.ranges.den, div-le_self c.args.den common), omega (arith, c.ranges.rest, div-le_self c.args.rest common))

pub overflow_mul-result : goal.overflow_mul-result
overflow_mul-result c =
    let are = small (goal.at.overflow_mul-result c).After-greatest_common_divisor-common in
    let den = c.args.den / c.greatest_common_divisor-common.result in
    rw (c.from.ensures, product_read c.args.whole den c.requires.within are.0) (ratio_fits c.args.whole den 0 c.requires.within are.0 (omega arith)).0

pub overflow_add-result : goal.overflow_add-result
overflow_add-result c =
    let are = small (goal.at.overflow_add-result c).After-greatest_common_divisor-common in
    let den = c.args.den / c.greatest_common_divisor-common.result in
    let rest = c.args.rest / c.greatest_common_divisor-common.result in
    rw (c.from.ensures, c.from-2.ensures, sum_read c.args.whole den rest c.requires.within are.0 are.1) (ratio_fits c.args.whole den rest c.requires.within are.0 are.1).1

pub returns-clause-reduced : goal.returns-clause-reduced
returns-clause-reduced c =
    let are = small (goal.at.returns-clause-reduced c).After-greatest_common_divisor-common in
    let den = c.args.den / c.greatest_common_divisor-common.result in
    let rest = c.args.rest / c.greatest_common_divisor-common.result in
    let fits = (ratio_fits c.args.whole den rest c.requires.within are.0 are.1).1 in
    rw (c.from.ensures, c.from-2.ensures, sum_read c.args.whole den rest c.requires.within are.0 are.1, to_z-of_z fits)
    (ratio_reduced c.args.whole c.args.den c.args.rest c.greatest_common_divisor-common.result c.requires.positive c.greatest_common_divisor-common.ensures)

pub returns-clause-value : goal.returns-clause-value
returns-clause-value c =
    let are = small (goal.at.returns-clause-value c).After-greatest_common_divisor-common in
    let den = c.args.den / c.greatest_common_divisor-common.result in
    let rest = c.args.rest / c.greatest_common_divisor-common.result in
    let fits = (ratio_fits c.args.whole den rest c.requires.within are.0 are.1).1 in
    rw (c.from.ensures, c.from-2.ensures, sum_read c.args.whole den rest c.requires.within are.0 are.1, to_z-of_z fits)
    (ratio_value ((c.args.whole *ℤ pos c.args.den) +ℤ pos c.args.rest) c.args.whole c.args.den c.args.rest c.greatest_common_divisor-common.result c.requires.positive c.greatest_common_divisor-common.ensures refl)
