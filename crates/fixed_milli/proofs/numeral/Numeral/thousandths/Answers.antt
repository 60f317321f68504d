-- The exponent decides where the point moves.
use Rattle.std.proofs.Common.{◌<◌, ◌^◌, length, rules}
use Rattle.fixed_milli.proofs.Powers.{raised, lowered_little, lowered}
use Rattle.fixed_milli.proofs.numeral.Numeral.thousandths.Goals as goal

pub returns-then-not-self : goal.returns-then-not-self
returns-then-not-self c =
    let short : length c.args.self.now.fraction.now < 2 ^ 63 = search rules in
    raised _ _ _ _ c.if-not-self.true short c.with_digits-exponent.ensures c.saturating_add.ensures c.moved_right.ensures

pub returns-then-exponent-le3 : goal.returns-then-exponent-le3
returns-then-exponent-le3 c = lowered_little _ _ _ c.if-not-self.false c.with_digits-exponent.ensures c.if-exponent-le3.true c.moved_right-then-exponent-le3.ensures

pub returns-else-exponent-le3 : goal.returns-else-exponent-le3
returns-else-exponent-le3 c =
    let short : length c.args.self.now.whole.now < 2 ^ 63 = search rules in
    lowered _ _ _ c.if-not-self.false short c.requires c.with_digits-exponent.ensures c.if-exponent-le3.false c.moved_left.ensures
