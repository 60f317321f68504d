-- The goals of `turn_wants` that the check leaves.
use Rattle.std.proofs.Common.{◌<◌, ◌^◌, pos, neg_ℤ, ◌-ℤ◌, FitsSigned, length, get_or, arith, w64, lit<}
use Rattle.std.proofs.lemmas.Int.{ints, fits_signed_from_abs}
use Rattle.plane_geom.specs.Point.{IsCoordinate}
use Rattle.separation_solve.proofs.LightFractions.Spots.{coordinate_size, gap_narrow}
use Rattle.separation_solve.proofs.Lists.Turning.{negated, turned_all, turned_more, unturned}
use Rattle.separation_solve.proofs.mirror.turn_wants.Goals as goal

pub loop-index-preserved : goal.loop-index-preserved
loop-index-preserved c =
    let inside : c.loop-index.index < length c.loop-index.wants = omega (arith, c.loop-index-test.true, c.loop-index.invariant.long) in
    let z = get_or c.loop-index.wants c.loop-index.index (pos 0) in
    let size = unturned neg_ℤ _ c.loop-index.wants c.loop-index.index (pos 0) IsCoordinate c.loop-index.invariant inside c.requires in
    let other : FitsSigned w64 (pos 0 -ℤ z) = fits_signed_from_abs w64 (pos 0 -ℤ z) (omega (arith, ints, coordinate_size z size, lit< {m = 2000000000} {n = 2 ^ 63} tt)) in
    turned_more neg_ℤ _ c.loop-index.wants c.loop-index.index _ (pos 0) c.loop-index.invariant inside (negated w64 z (gap_narrow z size) other)

pub returns : goal.returns
returns c = turned_all neg_ℤ _ _ c.loop-index.index (pos 0) c.loop-index.invariant (omega (arith, c.loop-index-test.false, c.loop-index.invariant.long))
