-- Whole numbers as they are spelled: an optional sign, followed by digits.
use Rattle.std.specs.Prelude.{ℕ, ◌&&◌, ℤ, Bool, nat_le, nat_lt, List, length, Option, Some, None, if◌then◌else◌}
use Rattle.std.specs.List.{list_all}
use Rattle.std.specs.Char.{is_ascii_digit}
use Rattle.std.specs.Str.Parse.{digits_value}
use Rattle.fixed_milli.specs.Milli.{with_sign}
use Rattle.fixed_milli.specs.Value.{signed}

-- at least one digit and at most `most`, and nothing else
abbrev pub are_digits : ℕ → List ℕ → Bool
are_digits most bytes = nat_lt 0 (length bytes) && (nat_le (length bytes) most && list_all is_ascii_digit bytes)

-- the whole number of a sign and the digits after it
abbrev pub whole_of : ℕ → Bool × List ℕ → Option ℤ
whole_of most s = if are_digits most s.1 then Some (with_sign s.0 (digits_value 10 s.1)) else None

-- the whole number of at most `most` digits that the bytes spell, and none if they are not of this form
abbrev pub read_whole : ℕ → List ℕ → Option ℤ
read_whole most bytes = whole_of most (signed bytes)
