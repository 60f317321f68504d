-- The point moved to the right.
use Rattle.fixed_milli.proofs.Rounding.{all_digits-take, moved_right}
use Rattle.fixed_milli.proofs.numeral.Numeral.moved_right.Goals as goal

pub with_digits-value-requires-clause-digits : goal.with_digits-value-requires-clause-digits
with_digits-value-requires-clause-digits c =
    rw c.split_at.ensures.front (all_digits-take _ c.args.self.now.fraction.now c.requires.fraction)

pub returns : goal.returns
returns c =
    let n = c.args.self.now in
    moved_right n.whole.now n.fraction.now c.args.places _ _ _ _ _ c.requires.fraction c.min-taken.ensures c.with_digits.ensures
    (rw c.split_at.ensures.front at c.with_digits-value.ensures) c.with_zeros.ensures (rw c.split_at.ensures.back at c.rounded.ensures)
