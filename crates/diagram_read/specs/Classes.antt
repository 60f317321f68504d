-- Digits read up to a greatest number. No public clause cites this module.
use Rattle.std.specs.Prelude.{ℕ, min, List, length, Option, Some, None, if◌then◌else◌}
use Rattle.std.specs.Str.Parse.{digits_value}
use Rattle.fixed_milli.specs.Whole.{are_digits}

-- the number that the digits spell, or one above the greatest class where it is greater
abbrev pub capped : List ℕ → Option ℕ
capped digits = if are_digits (length digits) digits then Some (min (digits_value 10 digits) 65536) else None
