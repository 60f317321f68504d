-- The exponent as moves of the point, also where it was counted short.
use Rattle.std.proofs.Common.{pow-add, ◌≡◌, ℕ, ◌+◌, ◌-◌, ◌*◌, ◌^◌, ◌<◌, ◌≤◌, min, true, false, if◌then◌else◌, length, sym, ap, ◌∙◌, arith, inl, inr}
use Rattle.std.specs.Str.Parse.{digits_value}
use Rattle.std.proofs.lemmas.Bool.{cases_lt}
use Rattle.std.proofs.Math.Nat.{one-le-pow}
use Rattle.fixed_milli.specs.declared.digits.TheConstants.{LIMIT}
use Rattle.fixed_milli.specs.Number.{Number, AreDigits, mantissa, numerator, denominator}
use Rattle.fixed_milli.specs.Milli.{rounded, magnitude}
use Rattle.fixed_milli.proofs.Rounding.{rounded-scaled, moved_far_left, moved_far_right}

-- an exponent that is not negative moves the point to the right
numerator-raised : (n : Number) → n.shrinks ≡ false → (numerator n ≡ mantissa n * 10 ^ (3 + digits_value 10 n.exponent)) × (denominator n ≡ 10 ^ length n.fraction)
unfolding numerator denominator
numerator-raised n e = (
  ap (λ b. mantissa n * 10 ^ (3 + (if b then 0 else digits_value 10 n.exponent))) e,
  ap (λ b. 10 ^ (length n.fraction + (if b then digits_value 10 n.exponent else 0))) e ∙ ap (λ k. 10 ^ k) (omega arith),
)

-- and a negative one to the left
numerator-lowered : (n : Number) → n.shrinks ≡ true → (numerator n ≡ mantissa n * 10 ^ 3) × (denominator n ≡ 10 ^ (length n.fraction + digits_value 10 n.exponent))
unfolding numerator denominator
numerator-lowered n e = (
  ap (λ b. mantissa n * 10 ^ (3 + (if b then 0 else digits_value 10 n.exponent))) e,
  ap (λ b. 10 ^ (length n.fraction + (if b then digits_value 10 n.exponent else 0))) e,
)

-- so the thousandths are counted with the point moved to the right, also where the exponent was counted short
pub raised : (n : Number) (exponent places result : ℕ) → n.shrinks ≡ false → length n.fraction < 2 ^ 63 → exponent ≡ min (digits_value 10 n.exponent) (2 ^ 64 - 1) → places ≡ min (exponent + 3) (2 ^ 64 - 1) →
    result ≡ min (rounded (mantissa n * 10 ^ places) (10 ^ length n.fraction)) LIMIT → result ≡ min (magnitude n) LIMIT
raised n exponent places result grows short e p r =
    let power = digits_value 10 n.exponent in
    let parts = numerator-raised n grows in
    let here : magnitude n ≡ rounded (mantissa n * 10 ^ (3 + power)) (10 ^ length n.fraction) = ap (λ a. rounded a (denominator n)) parts.0 ∙ ap (λ b. rounded (mantissa n * 10 ^ (3 + power)) b) parts.1 in
    elim (cases_lt (3 + power) (2 ^ 64)) as (λ _. result ≡ min (magnitude n) LIMIT) [
      | inl l ↦ (let same : places ≡ 3 + power = omega arith in
          r ∙ ap (λ k. min (rounded (mantissa n * 10 ^ k) (10 ^ length n.fraction)) LIMIT) same ∙ ap (λ m. min m LIMIT) (sym here))
      | inr l ↦ r ∙ moved_far_right (mantissa n) (length n.fraction) places (omega arith)
          ∙ sym (moved_far_right (mantissa n) (length n.fraction) (3 + power) (omega arith)) ∙ ap (λ m. min m LIMIT) (sym here)
    ]

-- the thousandths take back a little exponent
pub lowered_little : (n : Number) (exponent result : ℕ) → n.shrinks ≡ true → exponent ≡ min (digits_value 10 n.exponent) (2 ^ 64 - 1) → exponent ≤ 3 →
    result ≡ min (rounded (mantissa n * 10 ^ (3 - exponent)) (10 ^ length n.fraction)) LIMIT → result ≡ min (magnitude n) LIMIT
lowered_little n exponent result shrinks e few r =
    let power = digits_value 10 n.exponent in
    let same : exponent ≡ power = omega arith in
    let parts = numerator-lowered n shrinks in
    let top : mantissa n * 10 ^ 3 ≡ mantissa n * 10 ^ (3 - exponent) * 10 ^ exponent =
    ap (λ p. mantissa n * p) (ap (λ k. 10 ^ k) (let f : 3 ≡ 3 - exponent + exponent = omega arith in f) ∙ pow-add 10 (3 - exponent) exponent) ∙ omega arith in
    let bottom : 10 ^ (length n.fraction + power) ≡ 10 ^ length n.fraction * 10 ^ exponent = ap (λ k. 10 ^ (length n.fraction + k)) (sym same) ∙ pow-add 10 (length n.fraction) exponent in
    let here : magnitude n ≡ rounded (mantissa n * 10 ^ (3 - exponent)) (10 ^ length n.fraction) =
    ap (λ a. rounded a (denominator n)) (parts.0 ∙ top) ∙ ap (λ b. rounded (mantissa n * 10 ^ (3 - exponent) * 10 ^ exponent) b) (parts.1 ∙ bottom)
    ∙ rounded-scaled (mantissa n * 10 ^ (3 - exponent)) (10 ^ length n.fraction) (10 ^ exponent) (one-le-pow exponent 10 (omega arith)) in
    r ∙ ap (λ m. min m LIMIT) (sym here)

-- and a greater one moves the point to the left
pub lowered : (n : Number) (exponent result : ℕ) → n.shrinks ≡ true → length n.whole < 2 ^ 63 → AreDigits n → exponent ≡ min (digits_value 10 n.exponent) (2 ^ 64 - 1) → 3 < exponent →
    result ≡ min (rounded (mantissa n) (10 ^ (length n.fraction + (exponent - 3)))) LIMIT → result ≡ min (magnitude n) LIMIT
lowered n exponent result shrinks short digits e more r =
    let power = digits_value 10 n.exponent in
    let parts = numerator-lowered n shrinks in
    let bottom : 10 ^ (length n.fraction + power) ≡ 10 ^ (length n.fraction + (power - 3)) * 10 ^ 3 = ap (λ k. 10 ^ k) (omega arith) ∙ pow-add 10 (length n.fraction + (power - 3)) 3 in
    let here : magnitude n ≡ rounded (mantissa n) (10 ^ (length n.fraction + (power - 3))) =
    ap (λ a. rounded a (denominator n)) parts.0 ∙ ap (λ b. rounded (mantissa n * 10 ^ 3) b) (parts.1 ∙ bottom)
    ∙ rounded-scaled (mantissa n) (10 ^ (length n.fraction + (power - 3))) (10 ^ 3) (omega arith) in
    elim (cases_lt power (2 ^ 64)) as (λ _. result ≡ min (magnitude n) LIMIT) [
      | inl l ↦ (let same : exponent ≡ power = omega arith in
          r ∙ ap (λ k. min (rounded (mantissa n) (10 ^ (length n.fraction + (k - 3)))) LIMIT) same ∙ ap (λ m. min m LIMIT) (sym here))
      | inr l ↦ r ∙ ap (λ m. min m LIMIT) (moved_far_left n.whole n.fraction (exponent - 3) digits.whole digits.fraction (omega arith)
          ∙ sym (moved_far_left n.whole n.fraction (power - 3) digits.whole digits.fraction (omega arith)) ∙ sym here)
    ]
