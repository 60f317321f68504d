-- Digits after a number, up to a limit.
use Rattle.std.proofs.Common.{arith}
use Rattle.std.proofs.lemmas.Str.{digit_value_digit}
use Rattle.std.proofs.lemmas.Str.Parse.{digit_at}
use Rattle.fixed_milli.proofs.Decimals.{counted_more}
use Rattle.fixed_milli.proofs.digits.with_digits.Goals as goal

pub overflow_sub-digit : goal.overflow_sub-digit
overflow_sub-digit c = let code = digit_at c.args.digits.now c.loop-digit.digit-index c.requires.digits (omega arith) in omega (arith, code.0)

pub loop-digit-preserved : goal.loop-digit-preserved
loop-digit-preserved c =
    let digits = c.args.digits.now in
    let i = c.loop-digit.digit-index in
    let code = digit_at digits i c.requires.digits (omega arith) in
    counted_more c.args.value c.args.most digits i c.loop-digit.value c.from-units.result _ _ _ (omega arith) (omega arith)
    (omega (arith, digit_value_digit _ code, c.from-units.ensures)) c.loop-digit.invariant
    c.saturating_mul.ensures c.saturating_add.ensures c.min-value.ensures
