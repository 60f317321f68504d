-- The parts are those of the number that is spelled, if one is.
use Rattle.std.proofs.Common.{◌≡◌, ◌+◌, ◌<◌, length, arith}
use Rattle.std.proofs.lemmas.Bool.Decides.{nat_tests}
use Rattle.fixed_milli.proofs.Splitting.{parts_of, no_digits, no_exponent, parts_spell}
use Rattle.fixed_milli.proofs.numeral.Numeral.split.Goals as goal
use Rattle.fixed_milli.proofs.numeral.Numeral.split.Goals.{else-is_empty-via-then-is_empty+else-is_empty-2, else-is_empty-via-else-is_empty}

pub returns-then-is_empty-2 : goal.returns-then-is_empty-2
returns-then-is_empty-2 c =
    let whole : length c.split_digits.result.0.now ≡ 0 = grind (arith, nat_tests, c.if-is_empty.ensures) in
    let fraction : length c.split_fraction.result.0.now ≡ 0 = grind (arith, nat_tests, c.if-is_empty-2.ensures) in
    let parts = parts_of _ _ _ _ _ _ _ c.split_sign-negative.ensures c.split_digits.ensures c.split_fraction.ensures in
    no_digits _ _ _ _ _ parts whole fraction

pub returns-in_err-shrinks : goal.returns-in_err-shrinks
returns-in_err-shrinks c =
    let parts = parts_of _ _ _ _ _ _ _ c.split_sign-negative.ensures c.split_digits.ensures c.split_fraction.ensures in
    rw c.from_residual.ensures (no_exponent _ _ _ _ _ parts c.in_err-shrinks.ensures)

pub returns : goal.returns
returns c =
    let some : 0 < length c.split_digits.result.0.now + length c.split_fraction.result.0.now = elim c.else-is_empty.branch [
      | else-is_empty-via-then-is_empty+else-is_empty-2 w ↦ grind (arith, nat_tests, w.if-is_empty-2.ensures)
      | else-is_empty-via-else-is_empty w ↦ grind (arith, nat_tests, w.if-is_empty.ensures)
    ] in
    let parts = parts_of _ _ _ _ _ _ _ c.split_sign-negative.ensures c.split_digits.ensures c.split_fraction.ensures in
    parts_spell _ _ _ _ _ _ _ parts some c.in_ok-shrinks.ensures
