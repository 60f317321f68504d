-- What holds while zeros are appended to a number.
use Rattle.std.proofs.Common.{◌≡◌, ◌*◌, ◌^◌, min}
use Rattle.fixed_milli.specs.declared.digits.TheConstants.{LIMIT}
use Rattle.fixed_milli.proofs.digits.with_zeros.Given as goal

-- the zeros so far are counted
abbrev pub invariant-loop : goal.invariant-loop
invariant-loop l = l.value ≡ min (l.initial.value * 10 ^ l.counter) LIMIT
