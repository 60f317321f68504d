-- Whole numbers by their sign and their digits.
use Rattle.std.proofs.Common.{◌≡◌, ℕ, ◌^◌, ◌<◌, ◌≤◌, Bool, true, List, [], ◌∷◌, length, Some, refl, sym, ap, ◌∙◌, arith}
use Rattle.std.specs.Prelude.{nat_lt, nat_le}
use Rattle.std.specs.Char.{is_ascii_digit, digit_value}
use Rattle.std.specs.List.{list_all}
use Rattle.std.specs.Str.Parse.{AllDigits, digits_value}
use Rattle.std.proofs.lemmas.Bool.{cond-true, and_from, lt-ltb, le-leb}
use Rattle.std.proofs.lemmas.Bool.Decides.{nat_tests}
use Rattle.std.proofs.lemmas.List.{append-nil}
use Rattle.std.proofs.lemmas.Str.Parse.{digit_from_value}
use Rattle.std.proofs.lemmas.Int.Digits.{digits_value-lt}
use Rattle.std.proofs.Math.Nat.{pow-le-pow_right}
use Rattle.fixed_milli.specs.Split.{SplitsSign, SplitsDigits}
use Rattle.fixed_milli.specs.Milli.{with_sign}
use Rattle.fixed_milli.specs.Value.{signed}
use Rattle.fixed_milli.specs.Whole.{are_digits, whole_of, read_whole}
use Rattle.fixed_milli.proofs.Splitting.{sign_same}
use Rattle.fixed_milli.proofs.Computing.{signed_splits}

-- what has the value of a digit passes the test
pub is_digit : (b : ℕ) → digit_value b < 10 → is_ascii_digit b ≡ true
is_digit b small = let code = digit_from_value b small in grind (arith, nat_tests, code)

-- digits pass the test
all_digits : (ds : List ℕ) → AllDigits 10 ds → list_all is_ascii_digit ds ≡ true
all_digits [] all = refl
all_digits (d ∷ ds) all = and_from (is_ascii_digit d) _ (is_digit d all.0) (all_digits ds all.1)

-- few digits spell a number that fits
pub few_digits : (ds : List ℕ) (most : ℕ) → AllDigits 10 ds → length ds ≤ most → most ≤ 18 → digits_value 10 ds < 10 ^ 18
few_digits ds most all few within =
    let small = digits_value-lt 10 ds all in
    let power : 10 ^ length ds ≤ 10 ^ 18 = pow-le-pow_right {n = 10} (omega arith) {i = length ds} {j = 18} (omega arith) in
    omega (arith, small, power)

-- the sign that was split off is the one that the function finds
read_signed : (most : ℕ) (bytes unsigned : List ℕ) (negative : Bool) → SplitsSign bytes negative unsigned → read_whole most bytes ≡ whole_of most (negative, unsigned)
read_signed most bytes unsigned negative sign =
    let same = sign_same bytes negative (signed bytes).0 unsigned (signed bytes).1 sign (signed_splits bytes) in
    ap (λ n. whole_of most (n, (signed bytes).1)) (sym same.0) ∙ ap (λ u. whole_of most (negative, u)) (sym same.1)

-- digits are read as their number
digits_read : (most : ℕ) (ds : List ℕ) (negative : Bool) → AllDigits 10 ds → 0 < length ds → length ds ≤ most →
    whole_of most (negative, ds) ≡ Some (with_sign negative (digits_value 10 ds))
digits_read most ds negative all some few =
    cond-true (are_digits most ds) _ _ (and_from (nat_lt 0 (length ds)) _ (lt-ltb 0 (length ds) some) (and_from (nat_le (length ds) most) _ (le-leb (length ds) most few) (all_digits ds all)))

-- digits and nothing else are a whole number
pub whole_read : (most : ℕ) (bytes unsigned digits rest : List ℕ) (negative : Bool) → SplitsSign bytes negative unsigned → SplitsDigits unsigned digits rest →
    0 < length digits → length digits ≤ most → length rest ≡ 0 → read_whole most bytes ≡ Some (with_sign negative (digits_value 10 digits))
whole_read most bytes unsigned digits (b ∷ rest) negative sign split some few none = absurd (omega arith)
whole_read most bytes unsigned digits [] negative sign split some few none =
    read_signed most bytes unsigned negative sign ∙ ap (λ u. whole_of most (negative, u)) (split.spelled ∙ append-nil digits) ∙ digits_read most digits negative split.all_digits some few
