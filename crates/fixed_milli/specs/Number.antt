-- Numbers and the bytes that spell them: the form of a number, and its value.
use Rattle.std.specs.Prelude.{◌≡◌, ℕ, ◌+◌, ◌*◌, ◌^◌, ◌<◌, ◌⊎◌, Bool, true, false, List, [], ◌++◌, length, codes, if◌then◌else◌}
use Rattle.std.specs.Str.Parse.{AllDigits, IsNumeral, digits_value}

-- the parts of a number: the digits before the point and after it, and those of the exponent, which may be negative
pub record Number : Type 0 where
  pub negative : Bool
  pub whole : List ℕ
  pub fraction : List ℕ
  pub shrinks : Bool
  pub exponent : List ℕ

-- a minus, or a plus or nothing
abbrev pub IsSign : List ℕ → Bool → Type 0
IsSign sign true = sign ≡ codes "-"
IsSign sign false = (sign ≡ codes "+") ⊎ (sign ≡ [])

-- a point, which may be left out if no digit follows it
abbrev pub IsPoint : List ℕ → List ℕ → Type 0
IsPoint point fraction = (point ≡ codes ".") ⊎ ((point ≡ []) × (fraction ≡ []))

-- `e` or `E`, a sign and at least one digit
pub record IsWrittenExponent (bytes : List ℕ) (negative : Bool) (digits : List ℕ) : Type 0 where
  pub mark : List ℕ
  pub sign : List ℕ
  pub is_mark : (mark ≡ codes "e") ⊎ (mark ≡ codes "E")
  pub is_sign : IsSign sign negative
  pub is_numeral : IsNumeral 10 digits
  pub spelled : bytes ≡ mark ++ (sign ++ digits)

-- an exponent, which may be left out
abbrev pub IsExponent : List ℕ → Bool → List ℕ → Type 0
IsExponent bytes negative digits = IsWrittenExponent bytes negative digits ⊎ ((bytes ≡ []) × (negative ≡ false) × (digits ≡ []))

-- the bytes spell the number: a sign, digits with at most one point and at least one digit among them, and an exponent
pub record Spells (n : Number) (bytes : List ℕ) : Type 0 where
  pub sign : List ℕ
  pub point : List ℕ
  pub ending : List ℕ
  pub is_sign : IsSign sign n.negative
  pub whole_digits : AllDigits 10 n.whole
  pub is_point : IsPoint point n.fraction
  pub fraction_digits : AllDigits 10 n.fraction
  pub some_digit : 0 < length n.whole + length n.fraction
  pub is_exponent : IsExponent ending n.shrinks n.exponent
  pub spelled : bytes ≡ sign ++ (n.whole ++ (point ++ (n.fraction ++ ending)))

-- each part of the number consists of digits
pub record AreDigits (n : Number) : Type 0 where
  pub whole : AllDigits 10 n.whole
  pub fraction : AllDigits 10 n.fraction
  pub exponent : AllDigits 10 n.exponent

-- the bytes spell a number
abbrev pub IsNumber : List ℕ → Type 0
IsNumber bytes = (n : Number) × Spells n bytes

-- no number is spelled by the bytes
abbrev pub SpellsNothing : List ℕ → Type 0
SpellsNothing bytes = (n : Number) → Spells n bytes → ⊥

-- all digits as one whole number
abbrev pub mantissa : Number → ℕ
mantissa n = digits_value 10 (n.whole ++ n.fraction)

-- the power of ten by which a nonnegative exponent multiplies
abbrev pub raised_by : Number → ℕ
raised_by n = if n.shrinks then 0 else digits_value 10 n.exponent

-- the power of ten by which a negative exponent divides
abbrev pub lowered_by : Number → ℕ
lowered_by n = if n.shrinks then digits_value 10 n.exponent else 0

-- the absolute value in thousandths is this number over the denominator
unfoldable pub numerator : Number → ℕ
numerator n = mantissa n * 10 ^ (3 + raised_by n)

-- each digit after the point divides by ten, and so does a negative exponent
unfoldable pub denominator : Number → ℕ
denominator n = 10 ^ (length n.fraction + lowered_by n)
