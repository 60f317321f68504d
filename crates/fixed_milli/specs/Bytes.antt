-- The bytes with which numbers are spelled, except the digits.
use Rattle.std.specs.Prelude.{ℕ, Bool, ◌==◌, ◌||◌}

abbrev pub plus : ℕ
plus = 43

abbrev pub minus : ℕ
minus = 45

abbrev pub point : ℕ
point = 46

-- the bytes that begin an exponent: `e` or `E`
abbrev pub is_mark : ℕ → Bool
is_mark b = b == 101 || b == 69
