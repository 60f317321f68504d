-- The bundle of one class after another.
use Rattle.std.proofs.Common.{[], ℕ, map, sym, ap, subst, ◌∙◌, w64, FitsSigned, rules, Vec}
use Rattle.std.proofs.lemmas.Int.{to_z-of_z}
use Rattle.std.proofs.lemmas.List.{get_or-map}
use Rattle.separation_model.specs.Arena.{Arena}
use Rattle.channel_bundles.specs.Bundles.{members_at}
use Rattle.channel_bundles.specs.Shares.{IsBundleWith}
use Rattle.channel_bundles.proofs.Bundling.{bundling_more}
use Rattle.channel_bundles.proofs.bare.bare_bundles.Goals as goal

pub loop-class-preserved : goal.loop-class-preserved
loop-class-preserved c =
    let fits : FitsSigned w64 c.args.nudge = search rules in
    let classes = c.args.classes.now in
    let i = c.loop-class.class-index in
    let list = c.class-item.result in
    let is = simp to_z-of_z at c.loop-class.invariant in
    let with = simp to_z-of_z at c.in_ok-bundle_with.ensures in
    let of = subst (λ own. IsBundleWith c.args.nudge (members_at c.args.members.now c.deref.result.now) own c.in_ok-bundle_with.field-0) c.in_ok-rules.ensures.items with in
    simp to_z-of_z (bundling_more (λ ms b. IsBundleWith c.args.nudge ms [] b) c.args.members.now (map (λ l. l.items) classes) c.loop-class.found.items _ i c.in_ok-bundle_with.field-0 c.deref.result.now is
    (c.deref.ensures.value ∙ ap (λ (l : Vec ℕ Arena). l.items) c.class-item.is ∙ sym (get_or-map (λ (l : Vec ℕ Arena). l.items) classes i list [] c.loop-class-test.true)) of c.in_ok-push.ensures.items)
