-- What holds while digits are appended to a number.
use Rattle.std.proofs.Common.{◌≡◌, min, take}
use Rattle.std.specs.Str.Parse.{digits_value_after}
use Rattle.fixed_milli.proofs.digits.with_digits.Given as goal

-- the digits so far are counted
abbrev pub invariant-loop-digit : goal.invariant-loop-digit
invariant-loop-digit l = l.value ≡ min (digits_value_after 10 l.initial.value (take l.digit-index l.digits)) l.most
