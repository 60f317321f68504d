-- What is written is of the grammar: numbers, and the letters of directions.
use Rattle.std.proofs.Common.{ℕ, zero, suc, ◌+◌, ◌/◌, ◌%◌, ◌<◌, ◌≤◌, Bool, true, false, List, [], ◌∷◌, ◌++◌, length, ℤ, pos, refl, sym, ap, arith, inl, inr}
use Rattle.std.specs.Prelude.{negsuc, ◌==◌, if◌then◌else◌}
use Rattle.std.specs.Char.{digit_value}
use Rattle.std.specs.Fmt.{digits, digits_onto, digit_glyph, decimal, signed_decimal}
use Rattle.std.specs.Str.Parse.{AllDigits, IsNumeral}
use Rattle.std.proofs.lemmas.Bool.{lt-ltb}
use Rattle.std.proofs.lemmas.Str.{digit_value_digit}
use Rattle.std.proofs.lemmas.List.{append_assoc, append-nil}
use Rattle.fixed_milli.specs.Number.{IsSign, IsNumber}
use Rattle.fixed_milli.specs.Milli.{three_digits, size_text, milli_text}
use Rattle.gml_text.specs.Bytes.{quote}
use Rattle.gml_text.specs.Grammar.{Lacks}
use Rattle.scene_model.specs.declared.pin.Dirs.{Dirs}
use Rattle.scene_model.specs.Letters.{letters}

-- the code of a digit is one
is_digit : (d : ℕ) → d < 10 → digit_value (48 + d) < 10
is_digit d small = omega (arith, digit_value_digit (48 + d) (omega arith, omega arith))

last_digit : (n : ℕ) → digit_value (digit_glyph false (n % 10)) < 10
last_digit n =
    let small : n % 10 < 10 = omega arith in
    rw (lt-ltb (n % 10) 10 small) (is_digit (n % 10) small)

chosen : (P : List ℕ → Type 0) (b : Bool) (xs ys : List ℕ) → P xs → P ys → P (if b then xs else ys)
chosen P true xs ys x y = x
chosen P false xs ys x y = y

-- digits are put in front of digits
onto_digits : (k n : ℕ) (acc : List ℕ) → AllDigits 10 acc → AllDigits 10 (digits_onto k 10 false n acc)
onto_digits zero n acc all = all
onto_digits (suc k) n acc all =
    let more = digit_glyph false (n % 10) ∷ acc in
    chosen (AllDigits 10) (n / 10 == 0) more (digits_onto k 10 false (n / 10) more) (last_digit n, all) (onto_digits k (n / 10) more (last_digit n, all))

-- and none is lost
onto_longer : (k n : ℕ) (acc : List ℕ) → length acc ≤ length (digits_onto k 10 false n acc)
onto_longer zero n acc = omega arith
onto_longer (suc k) n acc =
    let more = digit_glyph false (n % 10) ∷ acc in
    let deeper = onto_longer k (n / 10) more in
    chosen (λ xs. length acc ≤ length xs) (n / 10 == 0) more (digits_onto k 10 false (n / 10) more) (omega arith) (omega (arith, deeper))

onto_some : (k n : ℕ) → 0 < length (digits_onto (suc k) 10 false n [])
onto_some k n =
    let one = digit_glyph false (n % 10) ∷ [] in
    let deeper = onto_longer k (n / 10) one in
    chosen (λ xs. 0 < length xs) (n / 10 == 0) one (digits_onto k 10 false (n / 10) one) (omega arith) (omega (arith, deeper))

-- a plain whole number is digits
numeral : (n : ℕ) → IsNumeral 10 (decimal n)
unfolding digits
numeral n = (onto_some 63 n, onto_digits 64 n [] tt)

-- digits after a sign are a number
signed_number : (sign : List ℕ) (negative : Bool) (ds : List ℕ) → IsSign sign negative → IsNumeral 10 ds → IsNumber (sign ++ ds)
signed_number sign negative ds is_sign numeral = (
  record { negative = negative; whole = ds; fraction = []; shrinks = false; exponent = [] },
  record {
    sign = sign;
    point = [];
    ending = [];
    is_sign = is_sign;
    whole_digits = numeral.1;
    is_point = inr (refl, refl);
    fraction_digits = tt;
    some_digit = omega (arith, numeral.0);
    is_exponent = inr (refl, refl, refl);
    spelled = ap (λ l. sign ++ l) (sym (append-nil ds));
  },
)

pub decimal_number : (n : ℕ) → IsNumber (decimal n)
decimal_number n = signed_number [] false (decimal n) (inr refl) (numeral n)

pub signed_decimal_number : (z : ℤ) → IsNumber (signed_decimal z)
signed_decimal_number (pos n) = decimal_number n
signed_decimal_number (negsuc n) = signed_number (45 ∷ []) true (decimal (suc n)) refl (numeral (suc n))

size_number : (sign : List ℕ) (negative : Bool) (size : ℕ) → IsSign sign negative → IsNumber (sign ++ size_text size)
size_number sign negative size is_sign =
    let whole = numeral (size / 1000) in
    let part = size % 1000 in (
      record { negative = negative; whole = decimal (size / 1000); fraction = three_digits (size % 1000); shrinks = false; exponent = [] },
      record {
        sign = sign;
        point = 46 ∷ [];
        ending = [];
        is_sign = is_sign;
        whole_digits = whole.1;
        is_point = inl refl;
        fraction_digits = (is_digit (part / 100) (omega arith), (is_digit (part / 10 % 10) (omega arith), (is_digit (part % 10) (omega arith), tt)));
        some_digit = omega (arith, whole.0);
        is_exponent = inr (refl, refl, refl);
        spelled = ap (λ l. sign ++ l) (append_assoc (decimal (size / 1000)) (46 ∷ []) (three_digits (size % 1000)));
      },
    )

-- a length as it is written is a number, however great
pub milli_number : (z : ℤ) → IsNumber (milli_text z)
milli_number (pos n) = size_number [] false n (inr refl)
milli_number (negsuc n) = size_number (45 ∷ []) true (suc n) refl

lacks : (e s w n : Bool) → Lacks quote (letters (record { east = e; south = s; west = w; north = n }))
lacks true true true true = refl
lacks true true true false = refl
lacks true true false true = refl
lacks true true false false = refl
lacks true false true true = refl
lacks true false true false = refl
lacks true false false true = refl
lacks true false false false = refl
lacks false true true true = refl
lacks false true true false = refl
lacks false true false true = refl
lacks false true false false = refl
lacks false false true true = refl
lacks false false true false = refl
lacks false false false true = refl
lacks false false false false = refl

-- no quote is among the letters of directions
pub letters_lack : (d : Dirs) → Lacks quote (letters d)
letters_lack d = lacks d.east d.south d.west d.north
