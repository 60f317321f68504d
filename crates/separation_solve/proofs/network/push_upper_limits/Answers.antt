-- The goals of `push_upper_limits` that the check leaves.
use Rattle.std.proofs.Common.{◌≡◌, length, get_or, take, to_z, of_z, w64, pos, neg_ℤ, ◌-ℤ◌, arith, refl}
use Rattle.std.proofs.lemmas.Int.{ints}
use Rattle.std.proofs.lemmas.Slice.{pushed}
use Rattle.separation_model.specs.Bundle.{no_item}
use Rattle.separation_solve.specs.Network.{upper_links}
use Rattle.separation_solve.proofs.Networks.LinkLists.{upper-more, link_more}
use Rattle.separation_solve.proofs.Networks.Mirrored.{coordinate_turned}
use Rattle.separation_solve.proofs.LightFractions.Spots.{cast_is, gap_narrow}
use Rattle.separation_solve.proofs.network.push_upper_limits.Goals as goal

pub loop-index-preserved : goal.loop-index-preserved
loop-index-preserved c =
    let items = c.args.items.now in
    let i = c.loop-index.index in
    let item = get_or items i no_item in
    let inside = c.loop-index-test.true in
    let high = (c.requires i no_item inside).hi in
    let was = cast_is w64 item.hi item.hi refl (gap_narrow item.hi high) in
    let read = pos 0 -ℤ to_z w64 (of_z w64 item.hi) in
    let gap : to_z w64 (of_z w64 read) ≡ neg_ℤ item.hi = cast_is w64 read (neg_ℤ item.hi) (omega (arith, ints, was)) (gap_narrow (neg_ℤ item.hi) (coordinate_turned item.hi high)) in
    link_more c.args.links.now.items (upper_links (length items) 0 (take i items)) _ _ i (length items) (to_z w64 (of_z w64 read)) (neg_ℤ item.hi)
    (pushed _ c.loop-index.invariant c.in_ok-push.was c.push.ensures.items) gap
    (upper-more (length items) items i no_item inside)
