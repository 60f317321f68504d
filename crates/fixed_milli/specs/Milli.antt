-- Numbers in whole thousandths: what bytes are read as, and how thousandths are written.
use Rattle.std.specs.Prelude.{◌≡◌, ℕ, ◌+◌, ◌-◌, ◌*◌, ◌/◌, ◌%◌, ◌^◌, ◌<◌, ◌≤◌, Bool, List, [], ◌∷◌, ◌++◌, codes, suc, if◌then◌else◌, Result, Ok, Err, ℤ, pos, negsuc, neg_ℤ}
use Rattle.std.specs.Fmt.{decimal}
use Rattle.fixed_milli.specs.declared.milli.MilliFault.{MilliFault}
use Rattle.fixed_milli.specs.declared.milli.MilliFault.TheVariants.{NotNumber, OutOfRange}
use Rattle.fixed_milli.specs.Number.{Number, Spells, SpellsNothing, numerator, denominator}

-- the whole number nearest to a / b, and the greater one of two that are equally near, as `rounded_is_nearest` says
unfoldable pub rounded : ℕ → ℕ → ℕ
rounded a b = (2 * a + b) / (2 * b)

-- the distance of two numbers
abbrev pub absolute_difference : ℕ → ℕ → ℕ
absolute_difference m n = (m - n) + (n - m)

-- the absolute value in whole thousandths, rounded with halves away from zero
abbrev pub magnitude : Number → ℕ
magnitude n = rounded (numerator n) (denominator n)

-- the number with this absolute value, negative or not
abbrev pub with_sign : Bool → ℕ → ℤ
with_sign negative size = if negative then neg_ℤ (pos size) else pos size

-- the value in whole thousandths
abbrev pub thousandths : Number → ℤ
thousandths n = with_sign n.negative (magnitude n)

-- the greatest absolute value that is read, in thousandths
abbrev pub most_thousandths : ℕ
most_thousandths = 10 ^ 15

-- what the bytes are read as: a number's thousandths, or the fault of a number that is too great or of bytes that spell none
abbrev pub Reads : List ℕ → Result ℤ MilliFault → Type 0
Reads bytes (Ok value) = (n : Number) × Spells n bytes × (magnitude n ≤ most_thousandths) × (value ≡ thousandths n)
Reads bytes (Err OutOfRange) = (n : Number) × Spells n bytes × (most_thousandths < magnitude n)
Reads bytes (Err NotNumber) = SpellsNothing bytes

-- the three digits of a number below a thousand
abbrev pub three_digits : ℕ → List ℕ
three_digits n = (48 + n / 100) ∷ (48 + n / 10 % 10) ∷ (48 + n % 10) ∷ []

-- how a nonnegative number of thousandths is written: the whole units, a point and three digits
abbrev pub size_text : ℕ → List ℕ
size_text size = decimal (size / 1000) ++ codes "." ++ three_digits (size % 1000)

-- how any number of thousandths is written, with a minus exactly if it is negative
abbrev pub milli_text : ℤ → List ℕ
milli_text (pos n) = size_text n
milli_text (negsuc n) = codes "-" ++ size_text (suc n)
