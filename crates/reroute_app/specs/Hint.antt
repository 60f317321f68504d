-- What people are told besides the output.
use Rattle.std.specs.Prelude.{ℕ, ◌+◌, ◌==◌, ◌||◌, Bool, List, [], ◌∷◌, take, codes, bytes_eq, if◌then◌else◌}
use Rattle.gml_text.specs.declared.fault.GmlFault.{GmlFault}
use Rattle.gml_text.specs.declared.fault.GmlFault.TheVariants.{Syntax, TooDeep, Memory}
use Rattle.report_text.specs.declared.hint.Hint.{Hint}
use Rattle.report_text.specs.declared.hint.Hint.TheVariants.{Nothing, NoCommand, At}
use Rattle.report_text.specs.declared.hint.Place.{Place}

-- the place of the first byte of a text
abbrev pub first_place : Place
first_place = record { line = 1; column = 1 }

-- the place of the byte that follows: a line feed (10) ends its line
abbrev pub next_place : Place → ℕ → Place
next_place place byte =
    if byte == 10 then record { line = place.line + 1; column = 1 }
    else record { line = place.line; column = place.column + 1 }

-- the place that follows the bytes, of which the first has this place
abbrev pub place_after : Place → List ℕ → Place
place_after place [] = place
place_after place (byte ∷ bytes) = place_after (next_place place byte) bytes

-- the place of the byte at this offset
abbrev pub place_at : List ℕ → ℕ → Place
place_at bytes at = place_after first_place (take at bytes)

-- of bytes that are not read as a document: the place of the fault
abbrev pub gml_hint : List ℕ → GmlFault → Hint
gml_hint bytes (Syntax at) = At (place_at bytes at)
gml_hint bytes (TooDeep at) = At (place_at bytes at)
gml_hint bytes Memory = Nothing

-- the argument is the name of a subcommand
abbrev pub names_command : List ℕ → Bool
names_command word =
    bytes_eq word (codes "check") || (bytes_eq word (codes "route") || (bytes_eq word (codes "make") || (bytes_eq word (codes "preview")
    || (bytes_eq word (codes "shared") || (bytes_eq word (codes "prove") || bytes_eq word (codes "audit"))))))

-- of arguments that are not valid: whether the first one names a subcommand
abbrev pub words_hint : List (List ℕ) → Hint
words_hint [] = NoCommand
words_hint (word ∷ words) = if names_command word then Nothing else NoCommand
