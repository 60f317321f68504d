-- One run after another is taken.
use Rattle.std.proofs.Common.{refl}
use Rattle.channel_bundles.specs.declared.member.Member.{Member}
use Rattle.channel_bundles.proofs.Bundling.{made_more}
use Rattle.channel_bundles.proofs.bare.own_runs.Goals as goal

pub loop-place-preserved : goal.loop-place-preserved
loop-place-preserved c =
    made_more (λ (m : Member). m.run) c.args.members.now c.args.places.now c.loop-place.place-index c.loop-place.runs.items _ _ c.loop-place-test.true c.loop-place.invariant refl c.in_ok-push.ensures.items
