-- How a number is read byte by byte, as a function that repeats the code. No public clause cites this module; `fixed_milli` says what a number is.
use Rattle.std.specs.Prelude.{ℕ, Bool, true, false, ◌==◌, ◌||◌, if◌then◌else◌, Option, Some, None}
use Rattle.std.specs.Char.{is_ascii_digit}
use Rattle.fixed_milli.specs.Bytes.{plus, minus, point, is_mark}
use Rattle.gml_text.specs.declared.token.NumberPart.{NumberPart}
use Rattle.gml_text.specs.declared.token.NumberPart.TheVariants.{Sign, Whole, Point, Fraction, Mark, MarkSign, Exponent}

-- a sign, of either kind
abbrev pub is_sign : ℕ → Bool
is_sign b = b == plus || b == minus

-- the part after a number's first byte
abbrev pub begun : ℕ → Option NumberPart
begun b = if is_sign b then Some Sign else if b == point then Some Point else if is_ascii_digit b then Some Whole else None

-- the part after one more byte
abbrev pub after : NumberPart → ℕ → Option NumberPart
after Sign b = if is_ascii_digit b then Some Whole else if b == point then Some Point else None
after Whole b = if is_ascii_digit b then Some Whole else if b == point then Some Fraction else if is_mark b then Some Mark else None
after Point b = if is_ascii_digit b then Some Fraction else None
after Fraction b = if is_ascii_digit b then Some Fraction else if is_mark b then Some Mark else None
after Mark b = if is_sign b then Some MarkSign else if is_ascii_digit b then Some Exponent else None
after MarkSign b = if is_ascii_digit b then Some Exponent else None
after Exponent b = if is_ascii_digit b then Some Exponent else None

-- whether a number may end with the part
abbrev pub is_complete : NumberPart → Bool
is_complete Sign = false
is_complete Whole = true
is_complete Point = false
is_complete Fraction = true
is_complete Mark = false
is_complete MarkSign = false
is_complete Exponent = true
