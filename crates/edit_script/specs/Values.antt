-- The values of the words of a script.
use Rattle.std.specs.Prelude.{ℕ, ◌+◌, ◌^◌, ℤ, List, codes, bytes_eq, Option, Some, None, Result, Ok, Err, if◌then◌else◌}
use Rattle.std.specs.Str.Parse.{digits_value}
use Rattle.fixed_milli.specs.declared.milli.MilliFault.{MilliFault}
use Rattle.fixed_milli.specs.declared.milli.MilliFault.TheVariants.{NotNumber, OutOfRange}
use Rattle.fixed_milli.specs.Milli.{with_sign}
use Rattle.fixed_milli.specs.Value.{read, signed}
use Rattle.fixed_milli.specs.Whole.{are_digits, read_whole}
use Rattle.scene_model.specs.declared.settings.Setting.{Setting}
use Rattle.scene_model.specs.declared.settings.Setting.TheVariants.{Penalty, Buffer, Nudge}

-- one thousandth beyond the numbers that are read
abbrev pub beyond : ℕ
beyond = 10 ^ 15 + 1

-- the value of a word with this reading, where one beyond the range is taken as one thousandth beyond it
abbrev pub within : List ℕ → Result ℤ MilliFault → Option ℤ
within word (Ok value) = Some value
within word (Err OutOfRange) = Some (with_sign (signed word).0 beyond)
within word (Err NotNumber) = None

-- a number, in thousandths
abbrev pub number_of : List ℕ → Option ℤ
number_of word = within word (read word)

-- an id: an optional sign and 1 to 18 digits
abbrev pub id_of_word : List ℕ → Option ℤ
id_of_word word = read_whole 18 word

-- a class, a place or an edge number: 1 to 9 digits
abbrev pub count_of : List ℕ → Option ℕ
count_of word = if are_digits 9 word then Some (digits_value 10 word) else None

-- a setting by its name
abbrev pub setting_of : List ℕ → Option Setting
setting_of word =
    if bytes_eq word (codes "penalty") then Some Penalty
    else if bytes_eq word (codes "buffer") then Some Buffer
    else if bytes_eq word (codes "nudge") then Some Nudge else None
