-- One item after another is made.
use Rattle.channel_bundles.specs.Links.{item_of}
use Rattle.channel_bundles.proofs.Bundling.{made_more}
use Rattle.channel_bundles.proofs.bare.items_of.Goals as goal

pub loop-place-preserved : goal.loop-place-preserved
loop-place-preserved c =
    made_more item_of c.args.members.now c.args.places.now c.loop-place.place-index c.loop-place.items.items _ c.item.result c.loop-place-test.true c.loop-place.invariant c.item.ensures c.in_ok-push.ensures.items
