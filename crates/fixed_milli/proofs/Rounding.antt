-- Rounding, and the point moved to the right and to the left.
use Rattle.std.proofs.Common.{pow-add, ◌≡◌, ℕ, zero, suc, ◌+◌, ◌-◌, ◌*◌, ◌/◌, ◌%◌, ◌^◌, ◌<◌, ◌≤◌, ◌⊎◌, min, List, [], ◌∷◌, ◌++◌, length, take, drop, refl, sym, ap, ◌∙◌, arith, inl, inr, length-append, length-drop}
use Rattle.std.specs.Char.{digit_value}
use Rattle.std.specs.Str.Parse.{AllDigits, digits_value, digits_value_after}
use Rattle.std.proofs.lemmas.Bool.Decides.{nat_tests}
use Rattle.std.proofs.lemmas.Bool.{cases_lt}
use Rattle.std.proofs.lemmas.Int.Digits.{digits_value-lt}
use Rattle.std.proofs.lemmas.List.{take-append-drop, append_assoc, take_all, drop_all}
use Rattle.std.proofs.lemmas.Str.{digit_value_digit}
use Rattle.std.proofs.lemmas.Str.Parse.{digit_from_value}
use Rattle.std.proofs.Math.Nat.{pow-suc, one-le-pow, pow-le-pow_right, mul-le-mul_left, mul-le-mul_right, div-eq_of_lt-le, mul-div-mul_right}
use Rattle.fixed_milli.specs.declared.digits.TheConstants.{LIMIT}
use Rattle.fixed_milli.specs.Digits.{carry}
use Rattle.fixed_milli.specs.Milli.{rounded, absolute_difference}
use Rattle.fixed_milli.proofs.Decimals.{after-append, after_is, capped_after, capped_mul}

-- the rounded ratio is the whole number that it is nearest to
rounded_is : (a b r : ℕ) → r * (2 * b) ≤ 2 * a + b → 2 * a + b < (r + 1) * (2 * b) → rounded a b ≡ r
unfolding rounded
rounded_is a b r low high = div-eq_of_lt-le (2 * b) low high

-- and it is that number
rounded_bounds : (a b : ℕ) → 0 < b → (rounded a b * (2 * b) ≤ 2 * a + b) × (2 * a + b < (rounded a b + 1) * (2 * b))
unfolding rounded
rounded_bounds a b some =
    let n = 2 * b in
    let x = 2 * a + b in
    let whole : n * (x / n) + x % n ≡ x = omega arith in
    let rest : x % n < n = omega arith in
    (omega arith, omega arith)

-- so it is at most half a unit away
pub rounded_near : (a b : ℕ) → 0 < b → 2 * absolute_difference a (rounded a b * b) ≤ b
rounded_near a b some = let bounds = rounded_bounds a b some in omega (arith, bounds)

-- and the greater one where two are as near
pub rounded_halves : (a b k : ℕ) → 0 < b → 2 * a ≡ 2 * k * b + b → rounded a b ≡ k + 1
rounded_halves a b k some half = rounded_is a b (k + 1) (omega arith) (omega arith)

-- a common factor changes nothing
pub rounded-scaled : (a b c : ℕ) → 0 < c → rounded (a * c) (b * c) ≡ rounded a b
unfolding rounded
rounded-scaled a b c some =
    let top : 2 * (a * c) + b * c ≡ (2 * a + b) * c = omega arith in
    let bottom : 2 * (b * c) ≡ (2 * b) * c = omega arith in
    rw (top, bottom) (mul-div-mul_right (2 * a + b) (2 * b) some)

-- a whole number is its own
pub rounded_whole : (a b : ℕ) → 0 < b → rounded (a * b) b ≡ a
rounded_whole a b some = rounded_is (a * b) b a (omega arith) (omega arith)

-- the share that the digits after a number add to it
carry_cases : (ds : List ℕ) → AllDigits 10 ds → ((carry ds ≡ 0) × (2 * digits_value 10 ds < 10 ^ length ds)) ⊎ ((carry ds ≡ 1) × (10 ^ length ds ≤ 2 * digits_value 10 ds))
carry_cases [] all = inl (refl, omega arith)
carry_cases (d ∷ ds) all =
    let p = 10 ^ length ds in
    let e = after_is (0 * 10 + digit_value d) ds in
    let small = digits_value-lt 10 ds all.1 in
    let code = digit_value_digit d (digit_from_value d all.0) in
    let power = pow-suc 10 (length ds) in
    elim (cases_lt (digit_value d) 5) as (λ _. ((carry (d ∷ ds) ≡ 0) × (2 * digits_value 10 (d ∷ ds) < 10 ^ length (d ∷ ds))) ⊎ ((carry (d ∷ ds) ≡ 1) × (10 ^ length (d ∷ ds) ≤ 2 * digits_value 10 (d ∷ ds)))) [
      | inl l ↦ (let most : digit_value d * p ≤ 4 * p = mul-le-mul_right p (omega arith) in
          inl (grind (arith, nat_tests), omega (arith, e, small, power, most)))
      | inr l ↦ (let least : 5 * p ≤ digit_value d * p = mul-le-mul_right p (omega arith) in
          inr (grind (arith, nat_tests), omega (arith, e, small, power, least)))
    ]

-- the first digit after a number decides how it is rounded
pub rounded_carry : (v : ℕ) (ds : List ℕ) → AllDigits 10 ds → rounded (digits_value_after 10 v ds) (10 ^ length ds) ≡ v + carry ds
rounded_carry v ds all =
    let p = 10 ^ length ds in
    let e = after_is v ds in
    let small = digits_value-lt 10 ds all in
    elim (carry_cases ds all) as (λ _. rounded (digits_value_after 10 v ds) (10 ^ length ds) ≡ v + carry ds) [
      | inl w ↦ rw w.0 (rounded_is _ _ (v + 0) (omega (arith, e, w.1)) (omega (arith, e, w.1)))
      | inr w ↦ rw w.0 (rounded_is _ _ (v + 1) (omega (arith, e, small, w.1)) (omega (arith, e, small, w.1)))
    ]

-- the rest of a list of digits is digits
pub all_digits-drop : (i : ℕ) (ds : List ℕ) → AllDigits 10 ds → AllDigits 10 (drop i ds)
all_digits-drop zero ds all = all
all_digits-drop (suc i) [] all = all
all_digits-drop (suc i) (d ∷ ds) all = all_digits-drop i ds all.1

-- and so is its front
pub all_digits-take : (i : ℕ) (ds : List ℕ) → AllDigits 10 ds → AllDigits 10 (take i ds)
all_digits-take zero ds all = tt
all_digits-take (suc i) [] all = all
all_digits-take (suc i) (d ∷ ds) all = (all.0, all_digits-take i ds all.1)

-- digits after digits are digits
pub all_digits-append : (xs ys : List ℕ) → AllDigits 10 xs → AllDigits 10 ys → AllDigits 10 (xs ++ ys)
all_digits-append [] ys allx ally = ally
all_digits-append (x ∷ xs) ys allx ally = (allx.0, all_digits-append xs ys allx.1 ally)

-- the point moved to the right: the digits before it count, and the first one after it rounds
point_right : (w : ℕ) (fraction : List ℕ) (places taken : ℕ) → AllDigits 10 fraction → taken ≡ min (length fraction) places →
    digits_value_after 10 w (take taken fraction) * 10 ^ (places - taken) + carry (drop taken fraction) ≡ rounded (digits_value_after 10 w fraction * 10 ^ places) (10 ^ length fraction)
point_right w fraction places taken all t = elim (cases_lt places (length fraction)) as (λ _. digits_value_after 10 w (take taken fraction) * 10 ^ (places - taken) + carry (drop taken fraction) ≡ rounded (digits_value_after 10 w fraction * 10 ^ places) (10 ^ length fraction)) [
  | inl l ↦ (
      let front = take places fraction in
      let following = drop places fraction in
      let m = digits_value_after 10 w fraction in
      let same : taken ≡ places = omega arith in
      let none : places - places ≡ 0 = omega arith in
      let joined : m ≡ digits_value_after 10 (digits_value_after 10 w front) following = ap (digits_value_after 10 w) (sym (take-append-drop places fraction)) ∙ after-append w front following in
      let power : 10 ^ length fraction ≡ 10 ^ length following * 10 ^ places = ap (λ n. 10 ^ n) (omega (arith, length-drop places fraction)) ∙ pow-add 10 (length following) places in
      let near = ap (λ p. rounded (m * 10 ^ places) p) power ∙ rounded-scaled m (10 ^ length following) (10 ^ places) (one-le-pow places 10 (omega arith))
      ∙ ap (λ n. rounded n (10 ^ length following)) joined ∙ rounded_carry (digits_value_after 10 w front) following (all_digits-drop places fraction all) in
      rw (same, none) (omega (arith, near)))
  | inr l ↦ (
      let m = digits_value_after 10 w fraction in
      let same : taken ≡ length fraction = omega arith in
      let z = places - length fraction in
      let power : 10 ^ places ≡ 10 ^ z * 10 ^ length fraction = ap (λ n. 10 ^ n) (omega arith) ∙ pow-add 10 z (length fraction) in
      let regrouped : m * 10 ^ places ≡ m * 10 ^ z * 10 ^ length fraction = ap (λ p. m * p) power ∙ omega arith in
      let near = ap (λ n. rounded n (10 ^ length fraction)) regrouped ∙ rounded_whole (m * 10 ^ z) (10 ^ length fraction) (one-le-pow (length fraction) 10 (omega arith)) in
      rw (same, take_all (length fraction) fraction (omega arith), drop_all (length fraction) fraction (omega arith)) (omega (arith, near)))
]

-- the digits of a number with the point moved to the right are counted up to the limit
pub moved_right : (whole fraction : List ℕ) (places taken first kept value result : ℕ) → AllDigits 10 fraction → taken ≡ min (length fraction) places →
    first ≡ min (digits_value 10 whole) LIMIT → kept ≡ min (digits_value_after 10 first (take taken fraction)) LIMIT → value ≡ min (kept * 10 ^ (places - taken)) LIMIT → result ≡ min (value + carry (drop taken fraction)) LIMIT →
    result ≡ min (rounded (digits_value 10 (whole ++ fraction) * 10 ^ places) (10 ^ length fraction)) LIMIT
moved_right whole fraction places taken first kept value result all t f k v r =
    let w = digits_value 10 whole in
    let front = take taken fraction in
    let x = digits_value_after 10 w front in
    let p = 10 ^ (places - taken) in
    let digits : kept ≡ min x LIMIT = k ∙ ap (λ n. min (digits_value_after 10 n front) LIMIT) f ∙ capped_after w LIMIT front in
    let zeros : value ≡ min (x * p) LIMIT = v ∙ ap (λ n. min (n * p) LIMIT) digits ∙ capped_mul x p LIMIT (one-le-pow (places - taken) 10 (omega arith)) in
    let near : x * p + carry (drop taken fraction) ≡ rounded (digits_value 10 (whole ++ fraction) * 10 ^ places) (10 ^ length fraction) =
    point_right w fraction places taken all t ∙ ap (λ m. rounded (m * 10 ^ places) (10 ^ length fraction)) (sym (after-append 0 whole fraction)) in
    omega (arith, r, zeros, near)

-- what follows the first digit changes nothing
carry-append : (xs ys : List ℕ) → 0 < length xs → carry (xs ++ ys) ≡ carry xs
carry-append [] ys some = absurd (omega arith)
carry-append (x ∷ xs) ys some = refl

-- and to the left
pub moved_left : (whole fraction : List ℕ) (places kept result : ℕ) → AllDigits 10 whole → AllDigits 10 fraction → 0 < places → places ≤ length whole →
    kept ≡ min (digits_value 10 (take (length whole - places) whole)) LIMIT → result ≡ min (kept + carry (drop (length whole - places) whole)) LIMIT →
    result ≡ min (rounded (digits_value 10 (whole ++ fraction)) (10 ^ (length fraction + places))) LIMIT
moved_left whole fraction places kept result allw allf moved within k r =
    let i = length whole - places in
    let front = take i whole in
    let following = drop i whole in
    let rest = following ++ fraction in
    let parts : whole ++ fraction ≡ front ++ rest = ap (λ l. l ++ fraction) (sym (take-append-drop i whole)) ∙ append_assoc front following fraction in
    let joined : digits_value 10 (whole ++ fraction) ≡ digits_value_after 10 (digits_value 10 front) rest = ap (digits_value 10) parts ∙ after-append 0 front rest in
    let long : length fraction + places ≡ length rest = omega (arith, length-append following fraction, length-drop i whole) in
    let near : rounded (digits_value 10 (whole ++ fraction)) (10 ^ (length fraction + places)) ≡ digits_value 10 front + carry rest =
    ap (λ n. rounded (digits_value 10 (whole ++ fraction)) (10 ^ n)) long ∙ ap (λ m. rounded m (10 ^ length rest)) joined
    ∙ rounded_carry (digits_value 10 front) rest (all_digits-append following fraction (all_digits-drop i whole allw) allf) in
    omega (arith, r, k, near, carry-append following fraction (omega (arith, length-drop i whole)))

-- to the left of all digits nothing is left
pub moved_far_left : (whole fraction : List ℕ) (places : ℕ) → AllDigits 10 whole → AllDigits 10 fraction → length whole < places → rounded (digits_value 10 (whole ++ fraction)) (10 ^ (length fraction + places)) ≡ 0
moved_far_left whole fraction places allw allf far =
    let all = whole ++ fraction in
    let n = length all in
    let small = digits_value-lt 10 all (all_digits-append whole fraction allw allf) in
    let power : 10 ^ (n + 1) ≤ 10 ^ (length fraction + places) = pow-le-pow_right (omega arith) (omega (arith, length-append whole fraction)) in
    rounded_is (digits_value 10 all) (10 ^ (length fraction + places)) 0 (omega arith) (omega (arith, small, power, pow-add 10 n 1))

-- far to the right a number is beyond the limit, or it is 0
pub moved_far_right : (m n places : ℕ) → n + 16 ≤ places → min (rounded (m * 10 ^ places) (10 ^ n)) LIMIT ≡ min (m * LIMIT) LIMIT
moved_far_right m n places far =
    let z = places - n in
    let power : 10 ^ places ≡ 10 ^ z * 10 ^ n = ap (λ k. 10 ^ k) (omega arith) ∙ pow-add 10 z n in
    let regrouped : m * 10 ^ places ≡ m * 10 ^ z * 10 ^ n = ap (λ p. m * p) power ∙ omega arith in
    let near = ap (λ k. rounded k (10 ^ n)) regrouped ∙ rounded_whole (m * 10 ^ z) (10 ^ n) (one-le-pow n 10 (omega arith)) in
    let great : 10 ^ 16 ≤ 10 ^ z = pow-le-pow_right {n = 10} (omega arith) {i = 16} {j = z} (omega arith) in
    elim (cases_lt 0 m) as (λ _. min (rounded (m * 10 ^ places) (10 ^ n)) LIMIT ≡ min (m * LIMIT) LIMIT) [
      | inl some ↦ omega (arith, near, mul-le-mul_left m great)
      | inr none ↦ (let nothing : m ≡ 0 = omega arith in omega (arith, near, ap (λ k. k * 10 ^ z) nothing))
    ]
