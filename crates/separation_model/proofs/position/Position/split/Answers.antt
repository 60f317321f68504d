-- The whole part is counted from the start of the sheet.
use lib.Dec.{T}
use lib.Signed.{non_neg}
use mir.Val.{Fits}
use Rattle.std.proofs.Common.{◌≡◌, ℕ, ◌/◌, ◌%◌, ◌^◌, ◌<◌, ◌≤◌, ℤ, pos, ◌+ℤ◌, ◌*ℤ◌, unsigned_abs, FitsSigned, to_z, of_z, arith, ap, sym, subst, ◌∙◌, to_z-of_z, lit<}
use Rattle.std.proofs.Math.Nat.{div-le_of_le-mul}
use Rattle.std.proofs.lemmas.Int.{ints, fits_signed_mul, fits_signed_from_abs}
use mir.Syntax.{w128}
use Rattle.separation_model.specs.Apart.{FractionIsOnSheet, IsSplit}
use Rattle.separation_model.proofs.position.Position.split.Goals as goal
use Rattle.separation_model.proofs.position.Position.split.Goals.{After-from}

den_fits : (d : ℕ) → d < 18446744073709551616 → FitsSigned w128 (pos d)
den_fits d few = fits_signed_from_abs w128 (pos d) (omega (arith, lit< {m = 18446744073709551616} {n = 2 ^ 127} tt))

half_fits : (d : ℕ) → d < 18446744073709551616 → FitsSigned w128 (pos 2000000000 *ℤ pos d)
half_fits d few = fits_signed_mul w128 (pos 2000000000) (pos d) 2000000000 18446744073709551616 (omega arith) (omega arith) (lit< tt)

num_fits : (d : ℕ) (p : ℤ) → d < 18446744073709551616 → FractionIsOnSheet d p → FitsSigned w128 p
num_fits d p few on = fits_signed_from_abs w128 p (omega (arith, ints, on.low, on.high, lit< {m = 36893488147419103232000000000} {n = 2 ^ 127} tt))

sum_fits : (d : ℕ) (p : ℤ) → d < 18446744073709551616 → FractionIsOnSheet d p → FitsSigned w128 (p +ℤ (pos 2000000000 *ℤ pos d))
sum_fits d p few on = fits_signed_from_abs w128 (p +ℤ (pos 2000000000 *ℤ pos d)) (omega (arith, ints, on.low, on.high, lit< {m = 73786976294838206464000000000} {n = 2 ^ 127} tt))

cast_fits : (d : ℕ) (p : ℤ) → d < 18446744073709551616 → FractionIsOnSheet d p → T (non_neg (p +ℤ (pos 2000000000 *ℤ pos d))) × Fits w128 (unsigned_abs (p +ℤ (pos 2000000000 *ℤ pos d)))
cast_fits d p few on = (omega (arith, ints, on.low), record { fits = omega (arith, ints, on.low, on.high, lit< {m = 73786976294838206464000000000} {n = 2 ^ 128} tt) })

split_is : (d : ℕ) (p x : ℤ) → x ≡ p +ℤ (pos 2000000000 *ℤ pos d) → FractionIsOnSheet d p → IsSplit p d (unsigned_abs x / d) (unsigned_abs x % d)
split_is d p x e on = record { sum = omega (arith, ints, on.positive, on.low); rest_below = omega (arith, on.positive) }

whole_small : (d : ℕ) (p x : ℤ) → x ≡ p +ℤ (pos 2000000000 *ℤ pos d) → FractionIsOnSheet d p → unsigned_abs x / d ≤ 4000000000
whole_small d p x e on = div-le_of_le-mul d (omega (arith, ints, on.low, on.high))

few_parts : (c : After-from) → c.args.self.den < 18446744073709551616
few_parts c = omega arith

half_is : (c : After-from) → pos 2000000000 *ℤ to_z w128 (of_z w128 c.from.result) ≡ pos 2000000000 *ℤ pos c.args.self.den
half_is c = ap (λ v. pos 2000000000 *ℤ to_z w128 (of_z w128 v)) c.from.ensures ∙ ap (λ v. pos 2000000000 *ℤ v) (to_z-of_z (den_fits c.args.self.den (few_parts c)))

pub overflow_mul-from_start : goal.overflow_mul-from_start
overflow_mul-from_start c = subst (FitsSigned w128) (sym (half_is c)) (half_fits c.args.self.den (few_parts c))

sum_is : (c : After-from) → to_z w128 (of_z w128 c.args.self.pos) +ℤ to_z w128 (of_z w128 (pos 2000000000 *ℤ to_z w128 (of_z w128 c.from.result))) ≡ c.args.self.pos +ℤ (pos 2000000000 *ℤ pos c.args.self.den)
sum_is c =
    ap (λ v. v +ℤ to_z w128 (of_z w128 (pos 2000000000 *ℤ to_z w128 (of_z w128 c.from.result)))) (to_z-of_z (num_fits c.args.self.den c.args.self.pos (few_parts c) c.requires))
    ∙ ap (λ v. c.args.self.pos +ℤ to_z w128 (of_z w128 v)) (half_is c)
    ∙ ap (λ v. c.args.self.pos +ℤ v) (to_z-of_z (half_fits c.args.self.den (few_parts c)))

from_start_is : (c : After-from) → to_z w128 (of_z w128 (to_z w128 (of_z w128 c.args.self.pos) +ℤ to_z w128 (of_z w128 (pos 2000000000 *ℤ to_z w128 (of_z w128 c.from.result))))) ≡ c.args.self.pos +ℤ (pos 2000000000 *ℤ pos c.args.self.den)
from_start_is c = ap (λ v. to_z w128 (of_z w128 v)) (sum_is c) ∙ to_z-of_z (sum_fits c.args.self.den c.args.self.pos (few_parts c) c.requires)

pub overflow_add-from_start : goal.overflow_add-from_start
overflow_add-from_start c =
    let before = (goal.at.overflow_add-from_start c).After-from in
    subst (FitsSigned w128) (sym (sum_is before)) (sum_fits c.args.self.den c.args.self.pos (few_parts before) c.requires)

pub overflow_cast-from_start : goal.overflow_cast-from_start
overflow_cast-from_start c =
    let before = (goal.at.overflow_cast-from_start c).After-from in
    subst (λ v. T (non_neg v) × Fits w128 (unsigned_abs v)) (sym (from_start_is before)) (cast_fits c.args.self.den c.args.self.pos (few_parts before) c.requires)

pub returns-clause-split : goal.returns-clause-split
returns-clause-split c =
    let before = (goal.at.returns-clause-split c).After-from in
    let x = to_z w128 (of_z w128 (to_z w128 (of_z w128 c.args.self.pos) +ℤ to_z w128 (of_z w128 (pos 2000000000 *ℤ to_z w128 (of_z w128 c.from.result))))) in
    subst (λ e. IsSplit c.args.self.pos c.args.self.den (unsigned_abs x / e) (unsigned_abs x % e)) (sym c.from-den.ensures) (split_is c.args.self.den c.args.self.pos x (from_start_is before) c.requires)

pub returns-clause-whole : goal.returns-clause-whole
returns-clause-whole c =
    let before = (goal.at.returns-clause-whole c).After-from in
    let x = to_z w128 (of_z w128 (to_z w128 (of_z w128 c.args.self.pos) +ℤ to_z w128 (of_z w128 (pos 2000000000 *ℤ to_z w128 (of_z w128 c.from.result))))) in
    subst (λ e. unsigned_abs x / e ≤ 4000000000) (sym c.from-den.ensures) (whole_small c.args.self.den c.args.self.pos x (from_start_is before) c.requires)
