-- Places in lowest terms.
use Rattle.std.proofs.Common.{◌≡◌, ℕ, ◌+◌, ◌*◌, ◌^◌, ◌/◌, ◌%◌, [], ◌∷◌, ◌-ℤ◌, ◌<◌, ◌≤◌, ℤ, pos, negsuc, ◌+ℤ◌, ◌*ℤ◌, FitsSigned, unsigned_abs, to_z, of_z, to_z-of_z, arith, refl, ap, sym, subst, zero, suc, ◌∙◌}
use Rattle.std.proofs.lemmas.Int.{ints, fits_signed_mul, unsigned_abs-mul}
use Rattle.std.proofs.Math.Nat.{mul-le-mul, mul-div_cancel_left, div-le_of_le-mul}
use Rattle.std.specs.Int.{int_div_euclid}
use Rattle.separation_model.proofs.Arithmetic.Order.{cancel}
use mir.Syntax.{w64, w128}
use Rattle.separation_solve.specs.declared.fraction.Fraction.{Fraction}
use Rattle.separation_solve.specs.Reduced.{IsWithin, IsGreatestDivisor, IsReduced}
use Rattle.separation_solve.specs.Fraction.{IsLight}
use Rattle.separation_model.proofs.Arithmetic.Ring.{ring, var, ◌⊕◌, ◌⊗◌, ◌⊖◌}

pub light_abs : (p : Fraction) → IsLight p → unsigned_abs p.num ≤ 34000000000000000000
light_abs p l = omega (arith, ints, l.den, l.within.low, l.within.high)

-- the numerator of a light place by the denominator of another
pub light_product : (p q : Fraction) → IsLight p → IsLight q → FitsSigned w128 (p.num *ℤ pos q.den)
light_product p q l m = fits_signed_mul w128 p.num (pos q.den) 34000000000000000000 3400000000 (light_abs p l) (omega (arith, m.den)) (omega arith)

pub light_num : (p : Fraction) → IsLight p → FitsSigned w128 p.num
light_num p l = omega (arith, ints, light_abs p l)

pub light_step : (p : Fraction) (by : ℤ) → IsLight p → FitsSigned w64 by → FitsSigned w128 (by *ℤ pos p.den)
light_step p by l f = fits_signed_mul w128 by (pos p.den) 9223372036854775808 3400000000 (omega (arith, ints)) (omega (arith, l.den)) (omega arith)

product_le : (a b c d : ℕ) → a ≤ b → c ≤ d → a * c ≤ b * d
product_le a b c d h k = mul-le-mul h k

pub light_move : (p : Fraction) (by : ℤ) → IsLight p → FitsSigned w64 by → FitsSigned w128 (p.num +ℤ (by *ℤ pos p.den))
light_move p by l f =
    let k : unsigned_abs by * p.den ≤ 9223372036854775808 * 3400000000 = product_le (unsigned_abs by) 9223372036854775808 p.den 3400000000 (omega (arith, ints)) (omega (arith, l.den)) in
    omega (arith, ints, light_abs p l, unsigned_abs-mul by (pos p.den), k)

-- Euclid's last step
pub divisor_of_zero : (a b : ℕ) → b ≡ 0 → IsGreatestDivisor a b a
divisor_of_zero a b none = record {
  a_part = 1;
  b_part = 0;
  a_is = omega arith;
  b_is = omega arith;
  a_times = pos 1;
  b_times = pos 0;
  sum = omega (arith, ints);
}

-- one step by a remainder
pub divisor_of_rest : (a b g : ℕ) → IsGreatestDivisor b (a % b) g → IsGreatestDivisor a b g
divisor_of_rest a b g d = record {
  a_part = d.a_part * (a / b) + d.b_part;
  b_part = d.a_part;
  a_is = omega (arith, ap (λ x. x * (a / b)) d.a_is, d.b_is);
  b_is = d.a_is;
  a_times = d.b_times;
  b_times = d.a_times -ℤ (d.b_times *ℤ pos (a / b));
  sum =
      let e : (d.b_times *ℤ ((pos b *ℤ pos (a / b)) +ℤ pos (a % b))) +ℤ ((d.a_times -ℤ (d.b_times *ℤ pos (a / b))) *ℤ pos b) ≡ (d.a_times *ℤ pos b) +ℤ (d.b_times *ℤ pos (a % b)) =
      ring (d.b_times ∷ d.a_times ∷ pos b ∷ pos (a / b) ∷ pos (a % b) ∷ [])
      ((var 0 ⊗ ((var 2 ⊗ var 3) ⊕ var 4)) ⊕ ((var 1 ⊖ (var 0 ⊗ var 3)) ⊗ var 2))
      ((var 1 ⊗ var 2) ⊕ (var 0 ⊗ var 4)) refl in
      let whole : pos a ≡ (pos b *ℤ pos (a / b)) +ℤ pos (a % b) = omega (arith, ints) in
      ap (λ x. (d.b_times *ℤ x) +ℤ ((d.a_times -ℤ (d.b_times *ℤ pos (a / b))) *ℤ pos b)) whole ∙ e ∙ d.sum;
}

-- a factor of a positive number
other_factor : (n g k : ℕ) → 0 < n → n ≡ g * k → 0 < k
other_factor n g zero h e = absurd (omega (arith, e))
other_factor n g (suc k) h e = omega arith

-- the parts of two numbers over their greatest divisor
divisor_positive : (den rest g : ℕ) → 0 < den → IsGreatestDivisor den rest g → 0 < g
divisor_positive den rest zero h d = absurd (omega (arith, d.a_is))
divisor_positive den rest (suc g) h d = omega arith

part_is : (n g k : ℕ) → 0 < g → n ≡ g * k → n / g ≡ k
part_is n g k h e = ap (λ x. x / g) e ∙ mul-div_cancel_left k h

pub ratio_reduced : (whole : ℤ) (den rest g : ℕ) → 0 < den → IsGreatestDivisor den rest g → IsReduced ((whole *ℤ pos (den / g)) +ℤ pos (rest / g)) (den / g)
ratio_reduced whole den rest g h d =
    let some = divisor_positive den rest g h d in
    let den_part : den / g ≡ d.a_part = part_is den g d.a_part some d.a_is in
    let rest_part : rest / g ≡ d.b_part = part_is rest g d.b_part some d.b_is in
    let one : pos g *ℤ ((d.a_times *ℤ pos d.a_part) +ℤ (d.b_times *ℤ pos d.b_part)) ≡ pos g *ℤ pos 1 =
    ring (pos g ∷ d.a_times ∷ pos d.a_part ∷ d.b_times ∷ pos d.b_part ∷ [])
    (var 0 ⊗ ((var 1 ⊗ var 2) ⊕ (var 3 ⊗ var 4))) ((var 1 ⊗ (var 0 ⊗ var 2)) ⊕ (var 3 ⊗ (var 0 ⊗ var 4))) refl
    ∙ ap (λ z. (d.a_times *ℤ pos z) +ℤ (d.b_times *ℤ (pos g *ℤ pos d.b_part))) (sym d.a_is)
    ∙ ap (λ z. (d.a_times *ℤ pos den) +ℤ (d.b_times *ℤ pos z)) (sym d.b_is)
    ∙ d.sum ∙ omega (arith, ints) in
    subst (λ n. IsReduced ((whole *ℤ pos n) +ℤ pos (rest / g)) n) (sym den_part)
    (subst (λ r. IsReduced ((whole *ℤ pos d.a_part) +ℤ pos r) d.a_part) (sym rest_part) (record {
      positive = other_factor den g d.a_part h d.a_is;
      num_times = d.b_times;
      den_times = d.a_times -ℤ (d.b_times *ℤ whole);
      one = ring (d.b_times ∷ whole ∷ pos d.a_part ∷ pos d.b_part ∷ d.a_times ∷ [])
          ((var 0 ⊗ ((var 1 ⊗ var 2) ⊕ var 3)) ⊕ ((var 4 ⊖ (var 0 ⊗ var 1)) ⊗ var 2)) ((var 4 ⊗ var 2) ⊕ (var 0 ⊗ var 3)) refl
          ∙ cancel g ((d.a_times *ℤ pos d.a_part) +ℤ (d.b_times *ℤ pos d.b_part)) (pos 1) some one;
    }))

pub ratio_value : (top whole : ℤ) (den rest g : ℕ) → 0 < den → IsGreatestDivisor den rest g → top ≡ (whole *ℤ pos den) +ℤ pos rest →
    ((whole *ℤ pos (den / g)) +ℤ pos (rest / g)) *ℤ pos den ≡ top *ℤ pos (den / g)
ratio_value top whole den rest g h d e =
    let some = divisor_positive den rest g h d in
    let den_part : den / g ≡ d.a_part = part_is den g d.a_part some d.a_is in
    let rest_part : rest / g ≡ d.b_part = part_is rest g d.b_part some d.b_is in
    let parts : top ≡ (whole *ℤ (pos g *ℤ pos d.a_part)) +ℤ (pos g *ℤ pos d.b_part) =
    e ∙ ap (λ z. (whole *ℤ pos z) +ℤ pos rest) d.a_is ∙ ap (λ z. (whole *ℤ (pos g *ℤ pos d.a_part)) +ℤ pos z) d.b_is in
    ap (λ z. ((whole *ℤ pos z) +ℤ pos (rest / g)) *ℤ pos den) den_part
    ∙ ap (λ z. ((whole *ℤ pos d.a_part) +ℤ pos z) *ℤ pos den) rest_part
    ∙ ap (λ z. ((whole *ℤ pos d.a_part) +ℤ pos d.b_part) *ℤ pos z) d.a_is
    ∙ ring (whole ∷ pos d.a_part ∷ pos d.b_part ∷ pos g ∷ [])
    (((var 0 ⊗ var 1) ⊕ var 2) ⊗ (var 3 ⊗ var 1)) (((var 0 ⊗ (var 3 ⊗ var 1)) ⊕ (var 3 ⊗ var 2)) ⊗ var 1) refl
    ∙ ap (λ z. z *ℤ pos d.a_part) (sym parts)
    ∙ ap (λ z. top *ℤ pos z) (sym den_part)

-- the quotient of a fraction that is not too far from 0
pub whole_bound : (top : ℤ) (den : ℕ) → 0 < den → IsWithin 10000000000 top den → unsigned_abs (int_div_euclid top (pos den)) ≤ 10000000001
whole_bound (pos a) den h w =
    let e : a / den ≤ 10000000000 = div-le_of_le-mul den (omega (arith, ints, w.high)) in
    omega (arith, e)
whole_bound (negsuc a) den h w =
    let e : a / den ≤ 10000000000 = div-le_of_le-mul den (omega (arith, ints, w.low)) in
    omega (arith, e)

pub ratio_fits : (whole : ℤ) (part rest : ℕ) → unsigned_abs whole ≤ 10000000001 → part < 2 ^ 64 → rest < 2 ^ 64 →
    FitsSigned w128 (whole *ℤ pos part) × FitsSigned w128 ((whole *ℤ pos part) +ℤ pos rest)
ratio_fits whole part rest h k l =
    let e : unsigned_abs whole * part ≤ 10000000001 * 18446744073709551616 = product_le (unsigned_abs whole) 10000000001 part 18446744073709551616 h (omega arith) in
    let p = unsigned_abs-mul whole (pos part) in
    (omega (arith, ints, e, p), omega (arith, ints, e, p))

-- the code's product and sum of the parts
pub product_read : (whole : ℤ) (den : ℕ) → unsigned_abs whole ≤ 10000000001 → den < 2 ^ 64 → to_z w128 (of_z w128 whole) *ℤ to_z w128 (of_z w128 (pos den)) ≡ whole *ℤ pos den
product_read whole den bound small =
    let top : FitsSigned w128 whole = omega (arith, ints, bound) in
    let part : FitsSigned w128 (pos den) = omega (arith, ints, small) in
    ap (λ z. z *ℤ to_z w128 (of_z w128 (pos den))) (to_z-of_z top) ∙ ap (λ z. whole *ℤ z) (to_z-of_z part)

pub sum_read : (whole : ℤ) (den rest : ℕ) → unsigned_abs whole ≤ 10000000001 → den < 2 ^ 64 → rest < 2 ^ 64 →
    to_z w128 (of_z w128 (to_z w128 (of_z w128 whole) *ℤ to_z w128 (of_z w128 (pos den)))) +ℤ to_z w128 (of_z w128 (pos rest)) ≡ (whole *ℤ pos den) +ℤ pos rest
sum_read whole den rest bound small less =
    let product = (ratio_fits whole den rest bound small less).0 in
    let other : FitsSigned w128 (pos rest) = omega (arith, ints, less) in
    ap (λ z. to_z w128 (of_z w128 z) +ℤ to_z w128 (of_z w128 (pos rest))) (product_read whole den bound small)
    ∙ ap (λ z. z +ℤ to_z w128 (of_z w128 (pos rest))) (to_z-of_z product)
    ∙ ap (λ z. (whole *ℤ pos den) +ℤ z) (to_z-of_z other)
