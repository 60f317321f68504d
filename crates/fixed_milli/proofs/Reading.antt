-- Bytes are read in one way, and what is written is read again.
use Rattle.std.proofs.Common.{◌≡◌, ℕ, suc, ◌+◌, ◌-◌, ◌*◌, ◌/◌, ◌%◌, ◌^◌, ◌<◌, ◌≤◌, Bool, true, false, List, [], ◌∷◌, ◌++◌, Result, Ok, Err, ℤ, pos, neg_ℤ, refl, sym, ap, ◌∙◌, arith, inl, inr, ⊎_elim}
use Rattle.std.specs.Prelude.{negsuc, unsigned_abs}
use Rattle.std.specs.Char.{digit_value}
use Rattle.std.specs.Fmt.{decimal, padded_integral, format_spec, char_count}
use Rattle.std.specs.Str.Parse.{AllDigits, digits_value, digits_value_after}
use Rattle.std.proofs.lemmas.Fmt.{decimal_is_IsNumeral, decimal_digit, decimal_step}
use Rattle.std.proofs.lemmas.Str.{digit_value_digit}
use Rattle.std.proofs.lemmas.Bool.{cases_lt}
use Rattle.std.proofs.lemmas.List.{append_assoc}
use Rattle.fixed_milli.specs.declared.milli.MilliFault.{MilliFault}
use Rattle.fixed_milli.specs.declared.milli.MilliFault.TheVariants.{NotNumber, OutOfRange}
use Rattle.fixed_milli.specs.Number.{Number, IsSign, Spells, numerator, denominator, mantissa}
use Rattle.fixed_milli.specs.Milli.{Reads, rounded, magnitude, thousandths, most_thousandths, three_digits, size_text, milli_text}
use Rattle.fixed_milli.proofs.Decimals.{after-append}
use Rattle.fixed_milli.proofs.Rounding.{rounded_whole}
use Rattle.fixed_milli.proofs.Splitting.{number_same}

-- bytes are read in one way
pub read_same : (bytes : List ℕ) (r s : Result ℤ MilliFault) → Reads bytes r → Reads bytes s → r ≡ s
read_same bytes (Ok v) (Ok w) (m, spells, within, e) (n, spells', within', f) = ap Ok (e ∙ ap thousandths (number_same bytes m n spells spells') ∙ sym f)
read_same bytes (Ok v) (Err OutOfRange) (m, spells, within, e) (n, spells', beyond) = let same = ap magnitude (number_same bytes m n spells spells') in absurd (omega (arith, same, within, beyond))
read_same bytes (Ok v) (Err NotNumber) (m, spells, within, e) none = absurd (none m spells)
read_same bytes (Err OutOfRange) (Ok w) (m, spells, beyond) (n, spells', within, e) = let same = ap magnitude (number_same bytes m n spells spells') in absurd (omega (arith, same, within, beyond))
read_same bytes (Err OutOfRange) (Err OutOfRange) r s = refl
read_same bytes (Err OutOfRange) (Err NotNumber) (m, spells, beyond) none = absurd (none m spells)
read_same bytes (Err NotNumber) (Ok w) none (n, spells, within, e) = absurd (none n spells)
read_same bytes (Err NotNumber) (Err OutOfRange) none (n, spells, beyond) = absurd (none n spells)
read_same bytes (Err NotNumber) (Err NotNumber) r s = refl

-- a digit's code is worth the digit
digit_worth : (d : ℕ) → d < 10 → digit_value (48 + d) ≡ d
digit_worth d small = omega (arith, digit_value_digit (48 + d) (omega arith, omega arith))

-- the number that a text of thousandths spells
abbrev written : Bool → ℕ → Number
written negative size = record { negative = negative; whole = decimal (size / 1000); fraction = three_digits (size % 1000); shrinks = false; exponent = [] }

-- its three last digits are digits
three_are_digits : (n : ℕ) → n < 1000 → AllDigits 10 (three_digits n)
three_are_digits n small = (omega (arith, digit_worth (n / 100) (omega arith)), (omega (arith, digit_worth (n / 10 % 10) (omega arith)), (omega (arith, digit_worth (n % 10) (omega arith)), tt)))

-- and count as the number below a thousand
three_digits-value : (v n : ℕ) → n < 1000 → digits_value_after 10 v (three_digits n) ≡ v * 1000 + n
three_digits-value v n small = omega (arith, digit_worth (n / 100) (omega arith), digit_worth (n / 10 % 10) (omega arith), digit_worth (n % 10) (omega arith))

-- its digits are the size
written-mantissa : (negative : Bool) (size : ℕ) → size < 2 ^ 64 → mantissa (written negative size) ≡ size
written-mantissa negative size small =
    let whole = decimal_is_IsNumeral (size / 1000) (omega arith) in
    omega (arith, after-append 0 (decimal (size / 1000)) (three_digits (size % 1000)), three_digits-value (digits_value 10 (decimal (size / 1000))) (size % 1000) (omega arith), whole.1)

-- and so is its magnitude
written-magnitude : (negative : Bool) (size : ℕ) → size < 2 ^ 64 → magnitude (written negative size) ≡ size
unfolding numerator denominator
written-magnitude negative size small =
    ap (λ m. rounded (m * 10 ^ (3 + 0)) (10 ^ (3 + 0))) (written-mantissa negative size small) ∙ rounded_whole size (10 ^ (3 + 0)) (omega arith)

-- the text of a number of thousandths spells it
text_spells : (sign : List ℕ) (negative : Bool) (size : ℕ) → size < 2 ^ 64 → IsSign sign negative → Spells (written negative size) (sign ++ size_text size)
text_spells sign negative size small is_sign =
    let whole = decimal_is_IsNumeral (size / 1000) (omega arith) in
    record {
      sign = sign;
      point = 46 ∷ [];
      ending = [];
      is_sign = is_sign;
      whole_digits = whole.0.1;
      is_point = inl refl;
      fraction_digits = three_are_digits (size % 1000) (omega arith);
      some_digit = omega (arith, whole.0.0);
      is_exponent = inr (refl, refl, refl);
      spelled = ap (λ l. sign ++ l) (append_assoc (decimal (size / 1000)) (46 ∷ []) (three_digits (size % 1000)));
    }

-- what is written is read again
pub text_reads : (value : ℤ) → unsigned_abs value ≤ most_thousandths → Reads (milli_text value) (Ok value)
text_reads (pos n) within =
    let e = written-magnitude false n (omega arith) in
    (written false n, text_spells [] false n (omega arith) (inr refl), omega (arith, e, within), ap pos (sym e))
text_reads (negsuc n) within =
    let e = written-magnitude true (suc n) (omega arith) in
    (written true (suc n), text_spells (45 ∷ []) true (suc n) (omega arith) refl, omega (arith, e, within), ap (λ m. neg_ℤ (pos m)) (sym e))

-- three digits are the number padded with zeros
pub padded_three : (n : ℕ) → n < 1000 → padded_integral (format_spec 32 0 4 3 (2 ^ 64 - 1)) false [] (decimal n) ≡ three_digits n
unfolding padded_integral char_count
padded_three n small = ⊎_elim
    (λ one. let high : n / 100 ≡ 0 = omega arith in let middle : n / 10 % 10 ≡ 0 = omega arith in let low : n % 10 ≡ n = omega arith in rw (decimal_digit n one, high, middle, low))
    (λ more. ⊎_elim
    (λ two. let high : n / 100 ≡ 0 = omega arith in let middle : n / 10 % 10 ≡ n / 10 = omega arith in
    let wide : n < 2 ^ 64 = omega arith in let one : n / 10 < 10 = omega arith in
    rw (decimal_step n more wide, decimal_digit (n / 10) one, high, middle))
    (λ three. let front : n / 10 / 10 ≡ n / 100 = omega arith in
    let wide : n < 2 ^ 64 = omega arith in let tens : 10 ≤ n / 10 = omega arith in let narrow : n / 10 < 2 ^ 64 = omega arith in let one : n / 100 < 10 = omega arith in
    rw (decimal_step n more wide, decimal_step (n / 10) tens narrow, front, decimal_digit (n / 100) one))
    (cases_lt n 100))
    (cases_lt n 10)
