-- The goals of `Network::force` that the check leaves.
use Rattle.std.proofs.Common.{◌≡◌, ◌<◌, pos, ◌*ℤ◌, ◌-ℤ◌, slice_index, arith, sym, ap, subst, ◌∙◌, to_z, of_z, to_z-of_z, w64}
use mir.Syntax.{w128}
use Rattle.std.proofs.lemmas.List.{get_or_read}
use Rattle.plane_geom.specs.Point.{IsCoordinate}
use Rattle.separation_model.specs.Bundle.{int_at}
use Rattle.separation_solve.specs.declared.fraction.Fraction.{Fraction}
use Rattle.separation_solve.specs.Network.{IsSpot, force, items_of, no_place}
use Rattle.separation_solve.proofs.Networks.Forces.{force_at_fits, want_at}
use Rattle.separation_solve.proofs.LightFractions.Spots.{cast_is, gap_narrow, num_fits, spot_at}
use Rattle.separation_solve.proofs.network.Network.force.Goals as goal

pub returns : goal.returns
returns c =
    let n = c.args.self.now in
    let i = c.args.item in
    let frame = c.requires.frame in
    let p = c.index-place.result.now in
    let w = c.index.result.now in
    let z = c.index-2.result.now in
    let inside : i < items_of n = omega (arith, c.requires.item, frame.excess) in
    let place = get_or_read n.places.items i p (omega (arith, inside, frame.places)) c.index-place.ensures no_place in
    let weight = get_or_read n.weights.items i w (omega (arith, inside, frame.weights)) c.index.ensures 0 in
    let want = get_or_read n.wants.items i z inside c.index-2.ensures (pos 0) in
    let spot : IsSpot p = subst IsSpot (sym place) (spot_at n i frame c.requires.kept (omega (arith, inside))) in
    let coordinate : IsCoordinate z = subst IsCoordinate (sym want) (want_at n i frame inside) in
    let is : c.weighted_displacement.result ≡ force n i = c.weighted_displacement.ensures
    ∙ ap (λ x. pos 2 *ℤ pos w *ℤ (x -ℤ (pos p.den *ℤ to_z w64 (of_z w64 z)))) (to_z-of_z (num_fits p spot))
    ∙ ap (λ x. pos 2 *ℤ pos w *ℤ (p.num -ℤ (pos p.den *ℤ x))) (to_z-of_z (gap_narrow z coordinate) ∙ want)
    ∙ ap (λ k. pos 2 *ℤ pos k *ℤ (p.num -ℤ (pos p.den *ℤ int_at n.wants.items i))) weight
    ∙ ap (λ (q : Fraction). pos 2 *ℤ pos (slice_index n.weights.items i) *ℤ (q.num -ℤ (pos q.den *ℤ int_at n.wants.items i))) place in
    cast_is w128 _ _ is (force_at_fits n i frame c.requires.kept inside)
