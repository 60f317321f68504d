-- Splits of bytes by sign, digits and point, each of which is unique. No public clause cites this module.
use Rattle.std.specs.Prelude.{◌≡◌, ℕ, ◌≤◌, ◌≢◌, ◌⊎◌, Bool, true, false, List, [], ◌∷◌, ◌++◌}
use Rattle.std.specs.Char.{digit_value}
use Rattle.std.specs.Str.Parse.{AllDigits}
use Rattle.fixed_milli.specs.Bytes.{plus, minus, point}

-- the first byte, if there is one, is not a sign
abbrev pub BeginsUnsigned : List ℕ → Type 0
BeginsUnsigned [] = Unit {0}
BeginsUnsigned (b ∷ bs) = (b ≢ minus) × (b ≢ plus)

-- the first byte, if there is one, is not a point
abbrev pub BeginsPointless : List ℕ → Type 0
BeginsPointless [] = Unit {0}
BeginsPointless (b ∷ bs) = b ≢ point

-- the first byte, if there is one, is not a digit
abbrev pub EndsDigits : List ℕ → Type 0
EndsDigits [] = Unit {0}
EndsDigits (b ∷ bs) = 10 ≤ digit_value b

-- the rest follows the sign, if one comes first
abbrev pub SplitsSign : List ℕ → Bool → List ℕ → Type 0
SplitsSign bytes true rest = bytes ≡ minus ∷ rest
SplitsSign bytes false rest = (bytes ≡ plus ∷ rest) ⊎ ((bytes ≡ rest) × BeginsUnsigned bytes)

-- the digits are all the leading ones, and the rest follows them
pub record SplitsDigits (bytes digits rest : List ℕ) : Type 0 where
  pub spelled : bytes ≡ digits ++ rest
  pub all_digits : AllDigits 10 digits
  pub ended : EndsDigits rest

-- the digits are all those after the point, if one comes first, and the rest follows them
abbrev pub SplitsFraction : List ℕ → List ℕ → List ℕ → Type 0
SplitsFraction bytes fraction rest =
    ((following : List ℕ) × (bytes ≡ point ∷ following) × SplitsDigits following fraction rest)
    ⊎ ((bytes ≡ rest) × (fraction ≡ []) × BeginsPointless bytes)
