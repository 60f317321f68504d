-- Whole numbers without a sign.
use Rattle.std.proofs.Common.{◌≡◌, ℕ, ◌^◌, ◌≤◌, ◌<◌, true, false, List, [], ◌∷◌, length, get_or, Some, None, ℤ, pos, refl, sym, ap, ◌∙◌, arith}
use Rattle.std.specs.Prelude.{◌&&◌, nat_le, nat_lt}
use Rattle.std.specs.Char.{is_ascii_digit, digit_value}
use Rattle.std.specs.List.{list_all}
use Rattle.std.specs.Str.Parse.{AllDigits, digits_value}
use Rattle.std.proofs.lemmas.Bool.{and_parts}
use Rattle.std.proofs.lemmas.Bool.Decides.{nat_tests}
use Rattle.std.proofs.lemmas.Int.Digits.{digits_value-lt}
use Rattle.std.proofs.Math.Nat.{pow-le-pow_right}
use Rattle.fixed_milli.specs.Value.{signed}
use Rattle.fixed_milli.specs.Whole.{are_digits, whole_of, read_whole}
use Rattle.edit_script.specs.Values.{count_of}
use Rattle.scene_model.proofs.Directions.{tested}
use Rattle.scene_model.proofs.Directions.Tested.{yes, no}

-- a digit is no sign
no_sign : (b : ℕ) (bs : List ℕ) → is_ascii_digit b ≡ true → signed (b ∷ bs) ≡ (false, b ∷ bs)
no_sign b bs digit = grind (arith, nat_tests)

digit_valued : (d : ℕ) → is_ascii_digit d ≡ true → digit_value d < 10
digit_valued d digit = grind (arith, nat_tests)

-- what passes the test has the value of digits
digits_valued : (ds : List ℕ) → list_all is_ascii_digit ds ≡ true → AllDigits 10 ds
digits_valued [] all = tt
digits_valued (d ∷ ds) all =
    let parts = and_parts (is_ascii_digit d) (list_all is_ascii_digit ds) all in
    (digit_valued d parts.0, digits_valued ds parts.1)

-- few digits spell a small number
few_digits : (ds : List ℕ) → are_digits 9 ds ≡ true → digits_value 10 ds < 10 ^ 9
few_digits ds are =
    let parts = and_parts (nat_lt 0 (length ds)) (nat_le (length ds) 9 && list_all is_ascii_digit ds) are in
    let more = and_parts (nat_le (length ds) 9) (list_all is_ascii_digit ds) parts.1 in
    let small = digits_value-lt 10 ds (digits_valued ds more.1) in
    let few : length ds ≤ 9 = grind (arith, nat_tests, more) in
    let power : 10 ^ length ds ≤ 10 ^ 9 = pow-le-pow_right {n = 10} (omega arith) {i = length ds} {j = 9} few in
    omega (arith, small, power)

-- the number is a count that was read, and small
pub record IsCount (word : List ℕ) (value : ℤ) : Type 0 where
  pub count : ℕ
  pub is_count : count_of word ≡ Some count
  pub same : value ≡ pos count
  pub small : count < 10 ^ 9

-- what begins with a digit is read as a count
pub count_read : (word : List ℕ) (value : ℤ) → 1 ≤ length word → is_ascii_digit (get_or word 0 0) ≡ true → read_whole 9 word ≡ Some value → IsCount word value
count_read [] value some digit reads = absurd (omega arith)
count_read (b ∷ bs) value some digit reads =
    let value_read : whole_of 9 (false, b ∷ bs) ≡ Some value = sym (ap (whole_of 9) (no_sign b bs digit)) ∙ reads in
    elim (tested (are_digits 9 (b ∷ bs))) as (λ _. IsCount (b ∷ bs) value) [
      | yes are ↦ record {
        count = digits_value 10 (b ∷ bs);
        is_count = rw are refl;
        same = (let e : Some (pos (digits_value 10 (b ∷ bs))) ≡ Some value = rw are at value_read in cc);
        small = few_digits (b ∷ bs) are;
      }
      | no not ↦ (let e : None ≡ Some value = rw not at value_read in cc)
    ]
