-- Numbers, and the words that spell them.
use Rattle.std.proofs.Common.{◌≡◌, ℕ, zero, suc, ◌^◌, ◌<◌, ◌≤◌, Bool, true, false, cond, List, [], ◌∷◌, length}
use Rattle.std.proofs.Common.{get_or, Option, None, Some, ℤ, pos, negsuc, refl, sym, ap, subst, ◌∙◌, arith, rules}
use Rattle.std.specs.Prelude.{◌&&◌, ◌||◌, ◌==◌, not, nat_le, nat_lt, codes, decimal, bytes_eq, option_and_then, option_map, unsigned_abs}
use Rattle.std.specs.Char.{is_ascii_digit}
use Rattle.std.specs.Fmt.{signed_decimal}
use Rattle.std.specs.List.{list_all}
use Rattle.std.specs.Str.Parse.{digits_value}
use Rattle.std.proofs.lemmas.Bool.{and_parts, and_from, cond-true, lt-ltb, le-leb}
use Rattle.std.proofs.lemmas.Bool.Decides.{nat_tests}
use Rattle.std.proofs.lemmas.Fmt.{decimal-digits_value, decimal_digit, decimal_nonempty, digits_decimal, digits_value-decimal, first_decimal, length-decimal-le}
use Rattle.std.proofs.lemmas.Slice.Eq.{bytes_eq-Decides}
use Rattle.std.proofs.lemmas.Str.Parse.{IsNumeralModel, numerals_by_value, digits_value_short}
use Rattle.fixed_milli.specs.Whole.{are_digits}
use Rattle.proof_text.specs.Text.{IsWritableLabel, label_word}
use Rattle.proof_text.specs.Values.{is_plain, natural, negative, whole, in_32_bits, index, label}

own : IsNumeralModel (λ ds. list_all is_ascii_digit ds ≡ true) (digits_value 10)
own = numerals_by_value (λ ds. list_all is_ascii_digit ds ≡ true) (search rules)

-- a value that is there where a test holds
some_by_test : {A : Type 0} (b : Bool) (x v : A) → cond b (Some x) None ≡ Some v → (b ≡ true) × (x ≡ v)
some_by_test true x v e = (refl, cc)
some_by_test false x v e = cc

-- the parts of the test of a plain number
pub record ArePlain (word : List ℕ) : Type 0 where
  pub some : 0 < length word
  pub few : length word ≤ 18
  pub digits : list_all is_ascii_digit word ≡ true
  pub first : get_or word 0 0 ≡ 48 → length word ≡ 1

plain_parts : (word : List ℕ) → is_plain word ≡ true → ArePlain word
plain_parts word plain =
    let parts = and_parts (are_digits 18 word) (length word == 1 || not (get_or word 0 0 == 48)) plain in
    let sizes = and_parts (nat_lt 0 (length word)) (nat_le (length word) 18 && list_all is_ascii_digit word) parts.0 in
    let more = and_parts (nat_le (length word) 18) (list_all is_ascii_digit word) sizes.1 in
    record {
      some = grind (arith, nat_tests, sizes.0);
      few = grind (arith, nat_tests, more.0);
      digits = more.1;
      first = grind (arith, nat_tests, parts.1);
    }

plain_from : (word : List ℕ) → ArePlain word → is_plain word ≡ true
plain_from word p =
    and_from (are_digits 18 word) _
    (and_from (nat_lt 0 (length word)) _ (lt-ltb 0 (length word) p.some) (and_from (nat_le (length word) 18) _ (le-leb (length word) 18 p.few) p.digits))
    (grind (arith, nat_tests, p.first))

-- what is read as a number has the test's parts
natural_plain : (word : List ℕ) (v : ℕ) → natural word ≡ Some v → ArePlain word
natural_plain word v reads = plain_parts word (some_by_test (is_plain word) (digits_value 10 word) v reads).0

-- what is read as a number is its decimal
pub natural_spells : (word : List ℕ) (v : ℕ) → natural word ≡ Some v → (word ≡ decimal v) × (v < 10 ^ 18)
natural_spells word v reads =
    let p = natural_plain word v reads in
    let same = (some_by_test (is_plain word) (digits_value 10 word) v reads).1 in
    let small : digits_value 10 word < 10 ^ 18 = digits_value_short own word 18 p.digits p.few in
    let spelled = decimal-digits_value own word p.digits p.some p.first (omega (arith, small)) in
    (sym spelled ∙ ap decimal same, omega (arith, small, same))

-- the decimal of a number of 18 digits is plain
decimal_plain : (v : ℕ) → v < 10 ^ 18 → ArePlain (decimal v)
decimal_plain v small = record {
  some = decimal_nonempty v (omega arith);
  few = length-decimal-le 18 v (omega arith) small (omega arith);
  digits = digits_decimal own v (omega arith);
  first = one_zero v small;
}
  where
    one_zero : (v : ℕ) → v < 10 ^ 18 → get_or (decimal v) 0 0 ≡ 48 → length (decimal v) ≡ 1
    one_zero zero small h = ap length (decimal_digit 0 (omega arith))
    one_zero (suc n) small h = absurd (omega (arith, first_decimal (suc n) (omega arith) (omega arith)))

pub natural_reads : (v : ℕ) → v < 10 ^ 18 → natural (decimal v) ≡ Some v
natural_reads v small =
    cond-true (is_plain (decimal v)) _ _ (plain_from (decimal v) (decimal_plain v small)) ∙ ap Some (digits_value-decimal own v (omega arith))

-- the result for a value is that for one that is there
pub of_some : {A B : Type 0} (f : A → Option B) (o : Option A) (y : B) → option_and_then f o ≡ Some y → (x : A) × (o ≡ Some x) × (f x ≡ Some y)
of_some f None y e = cc
of_some f (Some x) y e = (x, refl, e)

pub mapped_some : {A B : Type 0} (f : A → B) (o : Option A) (y : B) → option_map f o ≡ Some y → (x : A) × (o ≡ Some x) × (f x ≡ y)
mapped_some f None y e = cc
mapped_some f (Some x) y e = (x, refl, cc)

-- the number of an edge or a stage
in_32 : (b : Bool) (n v : ℕ) → nat_lt n (2 ^ 32) ≡ b → cond b (Some n) None ≡ Some v → (n ≡ v) × (v < 2 ^ 32)
in_32 true n v test e = let same : n ≡ v = cc in (same, grind (arith, nat_tests, test, same))
in_32 false n v test e = cc

pub index_spells : (word : List ℕ) (v : ℕ) → index word ≡ Some v → (word ≡ decimal v) × (v < 2 ^ 32)
index_spells word v reads =
    let from = of_some in_32_bits (natural word) v reads in
    let small = in_32 (nat_lt from.0 (2 ^ 32)) from.0 v refl from.2 in
    ((natural_spells word from.0 from.1).0 ∙ ap decimal small.0, small.1)

pub index_reads : (v : ℕ) → v < 2 ^ 32 → index (decimal v) ≡ Some v
index_reads v small =
    ap (option_and_then in_32_bits) (natural_reads v (omega arith)) ∙ cond-true (nat_lt v (2 ^ 32)) (Some v) None (lt-ltb v (2 ^ 32) small)

-- a coordinate
negative_of : (n : ℕ) (z : ℤ) → negative n ≡ Some z → (m : ℕ) × (n ≡ suc m) × (z ≡ negsuc m)
negative_of zero z e = cc
negative_of (suc m) z e = (m, refl, cc)

negative_spells : (bs : List ℕ) (z : ℤ) → option_and_then negative (natural bs) ≡ Some z → (45 ∷ bs ≡ signed_decimal z) × (unsigned_abs z < 10 ^ 18)
negative_spells bs z reads =
    let from = of_some negative (natural bs) z reads in
    let size = negative_of from.0 z from.2 in
    let spelled = natural_spells bs from.0 from.1 in
    let P : ℤ → Type 0 = λ y. (45 ∷ bs ≡ signed_decimal y) × (unsigned_abs y < 10 ^ 18) in
    subst P (sym size.2) (ap (λ l. 45 ∷ l) (spelled.0 ∙ ap decimal size.1), omega (arith, spelled.1, size.1))

plain_spells : (word : List ℕ) (z : ℤ) → option_map pos (natural word) ≡ Some z → (word ≡ signed_decimal z) × (unsigned_abs z < 10 ^ 18)
plain_spells word z reads =
    let from = mapped_some pos (natural word) z reads in
    let P : ℤ → Type 0 = λ y. (word ≡ signed_decimal y) × (unsigned_abs y < 10 ^ 18) in
    subst P from.2 (natural_spells word from.0 from.1)

whole_by : (b : ℕ) (bs : List ℕ) (z : ℤ) (minus : Bool) → b == 45 ≡ minus →
    cond minus (option_and_then negative (natural bs)) (option_map pos (natural (b ∷ bs))) ≡ Some z →
    (b ∷ bs ≡ signed_decimal z) × (unsigned_abs z < 10 ^ 18)
whole_by b bs z true test reads =
    let is : b ≡ 45 = grind (arith, nat_tests, test) in
    let from = negative_spells bs z reads in
    (ap (λ c. c ∷ bs) is ∙ from.0, from.1)
whole_by b bs z false test reads = plain_spells (b ∷ bs) z reads

pub whole_spells : (word : List ℕ) (z : ℤ) → whole word ≡ Some z → (word ≡ signed_decimal z) × (unsigned_abs z < 10 ^ 18)
whole_spells [] z reads = cc
whole_spells (b ∷ bs) z reads = whole_by b bs z (b == 45) refl reads

-- a digit is no minus
no_minus : (b : ℕ) (bs : List ℕ) → list_all is_ascii_digit (b ∷ bs) ≡ true → b == 45 ≡ false
no_minus b bs digits =
    let digit = (and_parts (is_ascii_digit b) (list_all is_ascii_digit bs) digits).0 in
    grind (arith, nat_tests, digit)

pub whole_plain : (word : List ℕ) (n : ℕ) → natural word ≡ Some n → whole word ≡ Some (pos n)
whole_plain [] n reads = cc
whole_plain (b ∷ bs) n reads =
    let test = no_minus b bs (natural_plain (b ∷ bs) n reads).digits in
    ap (λ t. cond t (option_and_then negative (natural bs)) (option_map pos (natural (b ∷ bs)))) test ∙ ap (option_map pos) reads

pub whole_reads : (z : ℤ) → unsigned_abs z < 10 ^ 18 → whole (signed_decimal z) ≡ Some z
whole_reads (pos n) small = whole_plain (decimal n) n (natural_reads n small)
whole_reads (negsuc n) small = ap (option_and_then negative) (natural_reads (suc n) small)

-- a label
label_by : (word : List ℕ) (l : Option ℕ) (minus : Bool) → bytes_eq word (codes "-") ≡ minus →
    cond minus (Some None) (option_map Some (natural word)) ≡ Some l →
    (word ≡ label_word l) × IsWritableLabel l
label_by word l true test reads =
    let is : None ≡ l = cc in
    let P : Option ℕ → Type 0 = λ o. (word ≡ label_word o) × IsWritableLabel o in
    subst P is ((bytes_eq-Decides word (codes "-")).0 test, tt)
label_by word l false test reads =
    let from = mapped_some Some (natural word) l reads in
    let P : Option ℕ → Type 0 = λ o. (word ≡ label_word o) × IsWritableLabel o in
    subst P from.2 (natural_spells word from.0 from.1)

pub label_spells : (word : List ℕ) (l : Option ℕ) → label word ≡ Some l → (word ≡ label_word l) × IsWritableLabel l
label_spells word l reads = label_by word l (bytes_eq word (codes "-")) refl reads

no_dash : (word : List ℕ) (n : ℕ) (minus : Bool) → bytes_eq word (codes "-") ≡ minus → natural word ≡ Some n → minus ≡ false
no_dash word n false test reads = refl
no_dash word n true test reads =
    let is : word ≡ codes "-" = (bytes_eq-Decides word (codes "-")).0 test in
    let none : None ≡ Some n = ap natural (sym is) ∙ reads in
    cc

pub label_reads : (l : Option ℕ) → IsWritableLabel l → label (label_word l) ≡ Some l
label_reads None small = refl
label_reads (Some n) small =
    let reads = natural_reads n small in
    ap (λ t. cond t (Some None) (option_map Some (natural (decimal n)))) (no_dash (decimal n) n (bytes_eq (decimal n) (codes "-")) refl reads)
    ∙ ap (option_map Some) reads

-- the bytes of a decimal are digits
pub decimal_digits : (n : ℕ) → n < 2 ^ 64 → list_all is_ascii_digit (decimal n) ≡ true
decimal_digits n small = digits_decimal own n small
