-- The function that reads gives what the bytes are read as.
use Rattle.std.proofs.Common.{◌≡◌, ◌≢◌, ℕ, ◌+◌, ◌<◌, ◌≤◌, ◌⊎◌, ◌==◌, ◌||◌, Bool, true, false, List, [], ◌∷◌, ◌++◌, length, Option, Some, None, Result, Ok, Err, ℤ, refl, ap, subst, ◌∙◌, arith, inl, inr}
use Rattle.std.specs.Prelude.{nat_lt, nat_le}
use Rattle.std.specs.Char.{digit_value}
use Rattle.std.specs.Str.Parse.{AllDigits}
use Rattle.std.proofs.lemmas.Bool.{cases_Bool, eqb-true, eqb-false, ltb-true, ltb-false, leb-true, leb-false, or_cases, or_parts}
use Rattle.fixed_milli.specs.declared.milli.MilliFault.{MilliFault}
use Rattle.fixed_milli.specs.declared.milli.MilliFault.TheVariants.{NotNumber, OutOfRange}
use Rattle.fixed_milli.specs.Number.{Number, IsNumber, IsExponent, Spells, SpellsNothing}
use Rattle.fixed_milli.specs.Split.{SplitsSign, SplitsDigits, SplitsFraction, EndsDigits}
use Rattle.fixed_milli.specs.Milli.{Reads, magnitude, thousandths, most_thousandths}
use Rattle.fixed_milli.specs.Value.{signed, front_digits, following_digits, spelled_fraction, signed_digits, spelled_exponent, number_with, spelled_number, thousandths_of, read}
use Rattle.fixed_milli.proofs.Splitting.{Parts, parts_of, no_digits, no_exponent, parts_spell, no_power, exponent_of}
use Rattle.fixed_milli.proofs.Reading.{read_same}

-- the sign is split off
pub signed_splits : (bytes : List ℕ) → SplitsSign bytes (signed bytes).0 (signed bytes).1
signed_splits [] = inr (refl, tt)
signed_splits (b ∷ bs) =
    elim (cases_Bool (b == 45)) as (λ _. SplitsSign (b ∷ bs) (signed (b ∷ bs)).0 (signed (b ∷ bs)).1) [
      | inl minus ↦ rw minus (ap (λ c. c ∷ bs) (eqb-true b 45 minus))
      | inr no_minus ↦ elim (cases_Bool (b == 43)) as (λ _. SplitsSign (b ∷ bs) (signed (b ∷ bs)).0 (signed (b ∷ bs)).1) [
        | inl plus ↦ rw (no_minus, plus) (inl (ap (λ c. c ∷ bs) (eqb-true b 43 plus)))
        | inr no_plus ↦ rw (no_minus, no_plus) (inr (refl, (eqb-false b 45 no_minus, eqb-false b 43 no_plus)))
      ]
    ]

-- the digits and what follows them are the bytes
digits_spelled : (bytes : List ℕ) → bytes ≡ front_digits bytes ++ following_digits bytes
digits_spelled [] = refl
digits_spelled (b ∷ bs) =
    elim (cases_Bool (nat_lt (digit_value b) 10)) as (λ _. b ∷ bs ≡ front_digits (b ∷ bs) ++ following_digits (b ∷ bs)) [
      | inl digit ↦ rw digit (ap (λ l. b ∷ l) (digits_spelled bs))
      | inr none ↦ rw none refl
    ]

-- they are digits
digits_all : (bytes : List ℕ) → AllDigits 10 (front_digits bytes)
digits_all [] = tt
digits_all (b ∷ bs) =
    elim (cases_Bool (nat_lt (digit_value b) 10)) as (λ _. AllDigits 10 (front_digits (b ∷ bs))) [
      | inl digit ↦ rw digit (ltb-true (digit_value b) 10 digit, digits_all bs)
      | inr none ↦ rw none tt
    ]

-- and all that stand first
digits_end : (bytes : List ℕ) → EndsDigits (following_digits bytes)
digits_end [] = tt
digits_end (b ∷ bs) =
    elim (cases_Bool (nat_lt (digit_value b) 10)) as (λ _. EndsDigits (following_digits (b ∷ bs))) [
      | inl digit ↦ rw digit (digits_end bs)
      | inr none ↦ rw none (ltb-false (digit_value b) 10 none)
    ]

-- so they are split off
pub digits_split : (bytes : List ℕ) → SplitsDigits bytes (front_digits bytes) (following_digits bytes)
digits_split bytes = record { spelled = digits_spelled bytes; all_digits = digits_all bytes; ended = digits_end bytes }

-- and so is the fraction
fraction_splits : (bytes : List ℕ) → SplitsFraction bytes (spelled_fraction bytes).0 (spelled_fraction bytes).1
fraction_splits [] = inr (refl, refl, tt)
fraction_splits (b ∷ bs) =
    elim (cases_Bool (b == 46)) as (λ _. SplitsFraction (b ∷ bs) (spelled_fraction (b ∷ bs)).0 (spelled_fraction (b ∷ bs)).1) [
      | inl point ↦ rw point (inl (bs, ap (λ c. c ∷ bs) (eqb-true b 46 point), digits_split bs))
      | inr none ↦ rw none (inr (refl, refl, eqb-false b 46 none))
    ]

-- what an exponent is found to be
abbrev IsFoundExponent : List ℕ → Option (Bool × List ℕ) → Type 0
IsFoundExponent bytes None = (negative : Bool) (digits : List ℕ) → IsExponent bytes negative digits → ⊥
IsFoundExponent bytes (Some e) = IsExponent bytes e.0 e.1

-- no digits, or something after them
no_numeral : (m n : ℕ) → ((m == 0) || nat_lt 0 n) ≡ true → (m ≡ 0) ⊎ (0 < n)
no_numeral m n h = elim (or_cases (m == 0) (nat_lt 0 n) h) as (λ _. (m ≡ 0) ⊎ (0 < n)) [ inl none ↦ inl (eqb-true m 0 none) | inr more ↦ inr (ltb-true 0 n more) ]

-- after a mark an exponent is a sign and digits
marked_exponent : (b : ℕ) (bs : List ℕ) → (b ≡ 101) ⊎ (b ≡ 69) → IsFoundExponent (b ∷ bs) (signed_digits (signed bs))
marked_exponent b bs mark =
    let unsigned : List ℕ = (signed bs).1 in
    let digits : List ℕ = front_digits unsigned in
    let rest : List ℕ = following_digits unsigned in
    let sign = signed_splits bs in
    let split = digits_split unsigned in
    elim (cases_Bool ((length digits == 0) || nat_lt 0 (length rest))) as (λ _. IsFoundExponent (b ∷ bs) (signed_digits (signed bs))) [
      | inl not ↦ rw not (no_power b bs unsigned digits rest (signed bs).0 sign split (no_numeral (length digits) (length rest) not))
      | inr both ↦ (let parts = or_parts (length digits == 0) (nat_lt 0 (length rest)) both in
          let some = eqb-false (length digits) 0 parts.0 in
          let ended = ltb-false 0 (length rest) parts.1 in
          rw both (exponent_of b bs unsigned digits rest (signed bs).0 mark sign split (omega (arith, some)) (omega (arith, ended))))
    ]

-- without a mark there is none
unmarked : (b : ℕ) (bs : List ℕ) → ((b == 101) || (b == 69)) ≡ false → (negative : Bool) (digits : List ℕ) → IsExponent (b ∷ bs) negative digits → ⊥
unmarked b bs h negative digits (inr e) = let f = e.0 in cc
unmarked b bs h negative digits (inl w) =
    let parts = or_parts (b == 101) (b == 69) h in
    elim w.is_mark as (λ _. ⊥) [
      | inl e ↦ (let f : b ∷ bs ≡ 101 ∷ (w.sign ++ digits) = w.spelled ∙ ap (λ m. m ++ (w.sign ++ digits)) e in eqb-false b 101 parts.0 cc)
      | inr e ↦ (let f : b ∷ bs ≡ 69 ∷ (w.sign ++ digits) = w.spelled ∙ ap (λ m. m ++ (w.sign ++ digits)) e in eqb-false b 69 parts.1 cc)
    ]

-- a mark is one of two bytes
mark_of : (b : ℕ) → ((b == 101) || (b == 69)) ≡ true → (b ≡ 101) ⊎ (b ≡ 69)
mark_of b h = elim (or_cases (b == 101) (b == 69) h) as (λ _. (b ≡ 101) ⊎ (b ≡ 69)) [ inl small ↦ inl (eqb-true b 101 small) | inr great ↦ inr (eqb-true b 69 great) ]

-- an exponent is found exactly where there is one
exponent_found : (bytes : List ℕ) → IsFoundExponent bytes (spelled_exponent bytes)
exponent_found [] = inr (refl, refl, refl)
exponent_found (b ∷ bs) =
    elim (cases_Bool ((b == 101) || (b == 69))) as (λ _. IsFoundExponent (b ∷ bs) (spelled_exponent (b ∷ bs))) [
      | inl mark ↦ rw mark (marked_exponent b bs (mark_of b mark))
      | inr none ↦ rw none (unmarked b bs none)
    ]

-- what a number is found to be
abbrev IsFoundNumber : List ℕ → Option Number → Type 0
IsFoundNumber bytes None = SpellsNothing bytes
IsFoundNumber bytes (Some n) = Spells n bytes

-- parts make a number exactly where they have a digit and an exponent
parts_found : (bytes whole fraction ending : List ℕ) (negative : Bool) (e : Option (Bool × List ℕ)) → Parts bytes negative whole fraction ending → IsFoundExponent ending e → IsFoundNumber bytes (number_with negative whole fraction e)
parts_found bytes whole fraction ending negative None parts none = no_exponent bytes negative whole fraction ending parts none
parts_found bytes whole fraction ending negative (Some e) parts is_exponent =
    elim (cases_Bool (length whole + length fraction == 0)) as (λ _. IsFoundNumber bytes (number_with negative whole fraction (Some e))) [
      | inl none ↦ (let empty = eqb-true (length whole + length fraction) 0 none in
          rw none (no_digits bytes negative whole fraction ending parts (omega (arith, empty)) (omega (arith, empty))))
      | inr some ↦ (let filled = eqb-false (length whole + length fraction) 0 some in
          rw some (parts_spell bytes negative whole fraction ending e.0 e.1 parts (omega (arith, filled)) is_exponent))
    ]

-- so a number is found exactly where one is spelled
number_found : (bytes : List ℕ) → IsFoundNumber bytes (spelled_number bytes)
number_found bytes =
    let unsigned : List ℕ = (signed bytes).1 in
    let following : List ℕ = following_digits unsigned in
    let fraction : List ℕ × List ℕ = spelled_fraction following in
    parts_found bytes (front_digits unsigned) fraction.0 fraction.1 (signed bytes).0 (spelled_exponent fraction.1)
    (parts_of bytes (signed bytes).0 unsigned (front_digits unsigned) following fraction.0 fraction.1 (signed_splits bytes) (digits_split unsigned) (fraction_splits following))
    (exponent_found fraction.1)

-- a number that was found is read as its value
value_reads : (bytes : List ℕ) (n : Option Number) → IsFoundNumber bytes n → Reads bytes (thousandths_of n)
value_reads bytes None none = none
value_reads bytes (Some n) spells =
    elim (cases_Bool (nat_le (magnitude n) most_thousandths)) as (λ _. Reads bytes (thousandths_of (Some n))) [
      | inl within ↦ rw within (n, spells, leb-true (magnitude n) most_thousandths within, refl)
      | inr beyond ↦ rw beyond (n, spells, leb-false (magnitude n) most_thousandths beyond)
    ]

-- the function gives what the bytes are read as
pub reads_computed : (bytes : List ℕ) → Reads bytes (read bytes)
reads_computed bytes = value_reads bytes (spelled_number bytes) (number_found bytes)

-- so each answer that the bytes are read as is the function's: the fault of bytes that spell none
pub none_computed : (bytes : List ℕ) → SpellsNothing bytes → Err NotNumber ≡ read bytes
none_computed bytes none = read_same bytes (Err NotNumber) (read bytes) none (reads_computed bytes)

-- that of a number that is too great
pub great_computed : (bytes : List ℕ) (n : Number) → Spells n bytes → most_thousandths < magnitude n → Err OutOfRange ≡ read bytes
great_computed bytes n spells beyond = read_same bytes (Err OutOfRange) (read bytes) (n, spells, beyond) (reads_computed bytes)

-- and a number's thousandths
pub value_computed : (bytes : List ℕ) (n : Number) → Spells n bytes → magnitude n ≤ most_thousandths → Ok (thousandths n) ≡ read bytes
value_computed bytes n spells within = read_same bytes (Ok (thousandths n)) (read bytes) (n, spells, within, refl) (reads_computed bytes)

-- what is of a number's form is read
pub number_read : (bytes : List ℕ) → IsNumber bytes → read bytes ≢ Err NotNumber
number_read bytes (n, spells) none = let nothing = subst (Reads bytes) none (reads_computed bytes) in nothing n spells

-- an answer but this fault is that of a number
answer_number : (bytes : List ℕ) (r : Result ℤ MilliFault) → Reads bytes r → r ≢ Err NotNumber → IsNumber bytes
answer_number bytes (Ok value) (n, spells, _, _) some = (n, spells)
answer_number bytes (Err OutOfRange) (n, spells, _) some = (n, spells)
answer_number bytes (Err NotNumber) none some = absurd (some refl)

-- and what is read is of a number's form
pub read_number : (bytes : List ℕ) → read bytes ≢ Err NotNumber → IsNumber bytes
read_number bytes some = answer_number bytes (read bytes) (reads_computed bytes) some
