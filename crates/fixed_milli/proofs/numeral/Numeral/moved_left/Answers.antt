-- The point moved to the left.
use Rattle.std.proofs.Common.{min, ap, sym}
use Rattle.fixed_milli.specs.declared.digits.TheConstants.{LIMIT}
use Rattle.fixed_milli.proofs.Rounding.{all_digits-take, moved_left, moved_far_left}
use Rattle.fixed_milli.proofs.numeral.Numeral.moved_left.Goals as goal

pub returns-then-places-self : goal.returns-then-places-self
returns-then-places-self c =
    let n = c.args.self.now in
    let digits = c.requires.digits in
    sym (ap (λ r. min r LIMIT) (moved_far_left n.whole.now n.fraction.now c.args.places digits.whole digits.fraction c.if-places-self.true))

pub with_digits-requires-clause-digits : goal.with_digits-requires-clause-digits
with_digits-requires-clause-digits c =
    rw c.split_at.ensures.front (all_digits-take _ c.args.self.now.whole.now c.requires.digits.whole)

pub returns : goal.returns
returns c =
    let n = c.args.self.now in
    let digits = c.requires.digits in
    moved_left n.whole.now n.fraction.now c.args.places _ _ digits.whole digits.fraction c.requires.moved c.if-places-self.false
    (rw c.split_at.ensures.front at c.with_digits.ensures) (rw c.split_at.ensures.back at c.rounded.ensures)
