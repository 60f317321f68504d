-- One run after another is taken.
use Rattle.std.proofs.Common.{◌∷◌, ◌++◌, [], get_or, sym, ap, ◌∙◌}
use Rattle.std.proofs.lemmas.List.{map_more}
use Rattle.channel_bundles.specs.Links.{member_at}
use Rattle.channel_bundles.proofs.channel.chosen.Goals as goal

pub loop-place-preserved : goal.loop-place-preserved
loop-place-preserved c =
    let members = c.args.members.now in
    let places = c.args.places.now in
    let i = c.loop-place.place-index in
    c.in_ok-push.ensures.items ∙ ap (λ xs. xs ++ member_at members (get_or places i 0) ∷ []) c.loop-place.invariant ∙ sym (map_more (member_at members) places i 0 c.loop-place-test.true)
