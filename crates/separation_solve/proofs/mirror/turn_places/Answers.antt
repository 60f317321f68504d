-- The goals of `turn_places` that the check leaves.
use Rattle.std.proofs.Common.{◌<◌, ◌^◌, pos, ◌-ℤ◌, FitsSigned, length, get_or, arith, ap, lit<}
use mir.Syntax.{w128}
use Rattle.std.proofs.lemmas.Int.{ints, fits_signed_from_abs}
use Rattle.separation_solve.specs.declared.fraction.Fraction.{Fraction}
use Rattle.separation_solve.specs.Network.{IsSpot, turned_place, no_place}
use Rattle.separation_solve.proofs.LightFractions.Spots.{num_fits, spot_num}
use Rattle.separation_solve.proofs.Lists.Turning.{negated, turned_all, turned_more, unturned}
use Rattle.separation_solve.proofs.mirror.turn_places.Goals as goal

pub loop-index-preserved : goal.loop-index-preserved
loop-index-preserved c =
    let inside : c.loop-index.index < length c.loop-index.places = omega (arith, c.loop-index-test.true, c.loop-index.invariant.long) in
    let d : Fraction = record { num = pos 0; den = 0 } in
    let p = get_or c.loop-index.places c.loop-index.index d in
    let spot = unturned turned_place _ c.loop-index.places c.loop-index.index d IsSpot c.loop-index.invariant inside c.requires in
    let other : FitsSigned w128 (pos 0 -ℤ p.num) = fits_signed_from_abs w128 (pos 0 -ℤ p.num) (omega (arith, ints, spot_num p spot, lit< {m = 6800000000000000000} {n = 2 ^ 127} tt)) in
    turned_more turned_place _ c.loop-index.places c.loop-index.index _ d c.loop-index.invariant inside (ap (λ z. let q : Fraction = record { num = z; den = p.den } in q) (negated w128 p.num (num_fits p spot) other))

pub returns : goal.returns
returns c = turned_all turned_place _ _ c.loop-index.index no_place c.loop-index.invariant (omega (arith, c.loop-index-test.false, c.loop-index.invariant.long))
