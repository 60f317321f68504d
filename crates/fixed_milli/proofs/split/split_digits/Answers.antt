-- The digits that stand first, one by one.
use Rattle.std.proofs.Common.{◌≡◌, arith, take}
use Rattle.std.specs.Str.Parse.{AllDigits}
use Rattle.std.proofs.lemmas.Int.Digits.{digits_more}
use Rattle.fixed_milli.proofs.split.split_digits.Goals as goal

pub loop-byte-preserved : goal.loop-byte-preserved
loop-byte-preserved c =
    let e : c.loop-byte.count ≡ c.loop-byte.byte-index = c.loop-byte.invariant.counted in
    let so : AllDigits 10 (take c.loop-byte.byte-index c.args.bytes.now) = rw e at c.loop-byte.invariant.digits in
    record {
      counted = omega arith;
      digits = rw e (digits_more 10 c.args.bytes.now c.loop-byte.byte-index (omega arith) so c.if-not-is_ascii_digit.ensures.bound);
    }
