-- The goals of `push_lower_limits` that the check leaves.
use Rattle.std.proofs.Common.{length, refl, get_or, take, to_z, of_z, w64}
use Rattle.std.proofs.lemmas.Slice.{pushed}
use Rattle.separation_model.specs.Bundle.{no_item}
use Rattle.separation_solve.specs.Network.{lower_links}
use Rattle.separation_solve.proofs.Networks.LinkLists.{lower-more, link_more}
use Rattle.separation_solve.proofs.LightFractions.Spots.{cast_is, gap_narrow}
use Rattle.separation_solve.proofs.network.push_lower_limits.Goals as goal

pub loop-index-preserved : goal.loop-index-preserved
loop-index-preserved c =
    let items = c.args.items.now in
    let i = c.loop-index.index in
    let item = get_or items i no_item in
    let inside = c.loop-index-test.true in
    let gap = cast_is w64 item.lo item.lo refl (gap_narrow item.lo (c.requires i no_item inside).lo) in
    link_more c.args.links.now.items (lower_links (length items) 0 (take i items)) _ _ (length items) i (to_z w64 (of_z w64 item.lo)) item.lo
    (pushed _ c.loop-index.invariant c.in_ok-push.was c.push.ensures.items) gap
    (lower-more (length items) items i no_item inside)
