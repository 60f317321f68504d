-- What a word of a line stands for. No public clause cites this module.
use Rattle.std.specs.Prelude.{ℕ, zero, suc, ◌^◌, ◌==◌, ◌&&◌, ◌||◌, Bool, not, nat_lt, ℤ, pos, negsuc}
use Rattle.std.specs.Prelude.{List, [], ◌∷◌, length, codes, bytes_eq, Option, None, Some, option_and_then, option_map, slice_index, if◌then◌else◌}
use Rattle.std.specs.Str.Parse.{digits_value}
use Rattle.fixed_milli.specs.Whole.{are_digits}

-- 1 to 18 digits, of which the first is no 0 unless it is the only one
abbrev pub is_plain : List ℕ → Bool
is_plain word = are_digits 18 word && (length word == 1 || not (slice_index word 0 == 48))

-- a number that is not negative
abbrev pub natural : List ℕ → Option ℕ
natural word = if is_plain word then Some (digits_value 10 word) else None

-- the negative number of this size; 0 has none
abbrev pub negative : ℕ → Option ℤ
negative zero = None
negative (suc n) = Some (negsuc n)

-- a coordinate, with a minus where it is negative
abbrev pub whole : List ℕ → Option ℤ
whole [] = None
whole (b ∷ bs) = if b == 45 then option_and_then negative (natural bs) else option_map pos (natural (b ∷ bs))

-- the number, if it is one of 32 bits
abbrev pub in_32_bits : ℕ → Option ℕ
in_32_bits n = if nat_lt n (2 ^ 32) then Some n else None

-- the number of an edge or a stage
abbrev pub index : List ℕ → Option ℕ
index word = option_and_then in_32_bits (natural word)

-- a label, or a minus where there is none
abbrev pub label : List ℕ → Option (Option ℕ)
label word = if bytes_eq word (codes "-") then Some None else option_map Some (natural word)
