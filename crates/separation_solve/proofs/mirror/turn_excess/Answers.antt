-- The goals of `turn_excess` that the check leaves.
use Rattle.std.proofs.Common.{◌<◌, ◌≤◌, ◌^◌, pos, neg_ℤ, ◌-ℤ◌, FitsSigned, unsigned_abs, length, get_or, arith, lit<}
use mir.Syntax.{w128}
use Rattle.std.proofs.lemmas.Int.{ints, fits_signed_from_abs}
use Rattle.separation_solve.proofs.Lists.Turning.{negated, turned_all, turned_more, unturned}
use Rattle.separation_solve.proofs.mirror.turn_excess.Goals as goal

pub loop-index-preserved : goal.loop-index-preserved
loop-index-preserved c =
    let inside : c.loop-index.index < length c.loop-index.excess = omega (arith, c.loop-index-test.true, c.loop-index.invariant.long) in
    let z = get_or c.loop-index.excess c.loop-index.index (pos 0) in
    let size = unturned neg_ℤ _ c.loop-index.excess c.loop-index.index (pos 0) (λ x. unsigned_abs x ≤ 92480000000000000000000000000) c.loop-index.invariant inside c.requires in
    let bound : 92480000000000000000000000000 < 2 ^ 127 = lit< tt in
    let fits : FitsSigned w128 z = fits_signed_from_abs w128 z (omega (arith, size, bound)) in
    let other : FitsSigned w128 (pos 0 -ℤ z) = fits_signed_from_abs w128 (pos 0 -ℤ z) (omega (arith, ints, size, bound)) in
    turned_more neg_ℤ _ c.loop-index.excess c.loop-index.index _ (pos 0) c.loop-index.invariant inside (negated w128 z fits other)

pub returns : goal.returns
returns c = turned_all neg_ℤ _ _ c.loop-index.index (pos 0) c.loop-index.invariant (omega (arith, c.loop-index-test.false, c.loop-index.invariant.long))
