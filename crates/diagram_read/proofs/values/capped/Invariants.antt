-- The digits so far are digits, and their number is capped.
use Rattle.std.proofs.Common.{◌≡◌, true, take}
use Rattle.std.specs.Prelude.{min}
use Rattle.std.specs.Char.{is_ascii_digit}
use Rattle.std.specs.List.{list_all}
use Rattle.std.specs.Str.Parse.{digits_value}
use Rattle.diagram_read.proofs.values.capped.Given as goal

abbrev pub invariant-loop-digit : goal.invariant-loop-digit
invariant-loop-digit l =
    (l.number ≡ min (digits_value 10 (take l.digit-index l.digits)) 65536) × (list_all is_ascii_digit (take l.digit-index l.digits) ≡ true)
