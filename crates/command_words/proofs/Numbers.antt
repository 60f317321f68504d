-- The numbers that arguments give.
use Rattle.std.proofs.Common.{◌≡◌, ◌≢◌, ℕ, ◌^◌, ◌<◌, ◌≤◌, Bool, true, false, List, [], ◌∷◌, length, None, Some, Result, Ok, Err, codes, refl, sym, ap, subst, ◌∙◌, arith, ltb-true, true≢false, lit<, lit≤}
use Rattle.std.specs.Prelude.{◌==◌, ◌&&◌, bytes_eq, nat_lt, nat_le}
use Rattle.std.specs.Char.{digit_value, is_ascii_digit}
use Rattle.std.specs.List.{list_all}
use Rattle.std.specs.Result.{result_ok}
use Rattle.std.specs.Str.Parse.{AllDigits, IsNumeral, ParsesUnsigned, digits_value, without_leading_plus}
use Rattle.std.proofs.lemmas.Bool.{leb-true}
use Rattle.std.proofs.lemmas.Bool.Decides.{nat_tests}
use Rattle.std.proofs.Math.Nat.{pow-le-pow_right}
use Rattle.std.proofs.lemmas.Int.Digits.{digits_value-lt}
use Rattle.std.proofs.lemmas.Slice.Eq.{bytes_eq-Decides}
use Rattle.command_words.specs.Words.{is_seed, seed_of, workers_of}

not_same : (b : Bool) (P : Type 0) → (b ≡ true → P) → (P → ⊥) → b ≡ false
not_same true P into never = absurd (never (into refl))
not_same false P into never = refl

-- two texts differ
pub differ : (a b : List ℕ) → a ≢ b → bytes_eq a b ≡ false
differ a b apart = not_same (bytes_eq a b) (a ≡ b) (bytes_eq-Decides a b).0 apart

pub no_worker_count : (word : List ℕ) → word ≢ codes "1" → word ≢ codes "2" → word ≢ codes "3" → word ≢ codes "4" → None ≡ workers_of word
no_worker_count word one two three four =
    let a = differ word (codes "1") one in
    let b = differ word (codes "2") two in
    let c = differ word (codes "3") three in
    let d = differ word (codes "4") four in
    rw (a, b, c, d) refl

both : (a b : Bool) → (a && b) ≡ true → (a ≡ true) × (b ≡ true)
both true b h = (refl, h)
both false b h = absurd (true≢false (sym h))

low_digit : (c : ℕ) → is_ascii_digit c ≡ true → digit_value c < 10
low_digit c h = grind (arith, nat_tests)

no_plus : (c : ℕ) → is_ascii_digit c ≡ true → (c == 43) ≡ false
no_plus c h = grind (arith, nat_tests)

all_digits : (ds : List ℕ) → list_all is_ascii_digit ds ≡ true → AllDigits 10 ds
all_digits [] h = tt
all_digits (c ∷ ds) h = let each = both (is_ascii_digit c) (list_all is_ascii_digit ds) h in (low_digit c each.0, all_digits ds each.1)

fits_64 : (ds : List ℕ) → length ds ≤ 19 → AllDigits 10 ds → digits_value 10 ds < 2 ^ 64
fits_64 ds few digits =
    let low = digits_value-lt 10 ds digits in
    let bound : 10 ^ length ds ≤ 10 ^ 19 = pow-le-pow_right {n = 10} (lit< tt) few in
    let small : 10 ^ 19 ≤ 2 ^ 64 = lit≤ tt in
    omega (arith, low, bound, small)

-- an argument without a plus is read as its digits
read_digits : {E : Type 0} (word : List ℕ) (r : Result ℕ E) → without_leading_plus word ≡ word → IsNumeral 10 word → digits_value 10 word < 2 ^ 64
    → ParsesUnsigned 64 10 word r → result_ok r ≡ Some (digits_value 10 word)
read_digits word (Ok x) e numeral low p = ap Some (p.1 ∙ ap (digits_value 10) e)
read_digits word (Err x) e numeral low p =
    let P : List ℕ → Type 0 = λ w. IsNumeral 10 w × (digits_value 10 w < 2 ^ 64) in
    absurd (p (subst P (sym e) (numeral, low)))

-- the number that is read of a seed
pub seed_read : {E : Type 0} (word : List ℕ) (r : Result ℕ E) → is_seed word ≡ true → ParsesUnsigned 64 10 word r → result_ok r ≡ seed_of word
seed_read [] r h p = absurd (true≢false (sym h))
seed_read (c ∷ ds) r h p =
    let some = both (nat_lt 0 (length (c ∷ ds))) (nat_le (length (c ∷ ds)) 19 && list_all is_ascii_digit (c ∷ ds)) h in
    let rest = both (nat_le (length (c ∷ ds)) 19) (list_all is_ascii_digit (c ∷ ds)) some.1 in
    let first = both (is_ascii_digit c) (list_all is_ascii_digit ds) rest.1 in
    let plus = no_plus c first.0 in
    let whole : without_leading_plus (c ∷ ds) ≡ c ∷ ds = rw plus refl in
    let digits = all_digits (c ∷ ds) rest.1 in
    let read = read_digits (c ∷ ds) r whole (ltb-true 0 (length (c ∷ ds)) some.0, digits) (fits_64 (c ∷ ds) (leb-true (length (c ∷ ds)) 19 rest.0) digits) p in
    rw h read
