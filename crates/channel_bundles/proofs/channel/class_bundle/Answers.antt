-- The chosen runs are accepted, as all are.
use Rattle.std.proofs.Common.{length, sym, ap, subst, ◌∙◌, arith, w64, FitsSigned, rules}
use Rattle.std.specs.Prelude.{All}
use Rattle.std.proofs.lemmas.Int.{to_z-of_z}
use Rattle.std.proofs.lemmas.List.{length-map}
use Rattle.channel_bundles.specs.declared.member.Member.{Member}
use Rattle.channel_bundles.specs.Links.{IsMember, member_at, rules_after}
use Rattle.channel_bundles.specs.Bundles.{members_at}
use Rattle.channel_bundles.specs.Listed.{IsListed}
use Rattle.channel_bundles.specs.Shares.{IsBundleWith}
use Rattle.channel_bundles.specs.declared.channel.Listing.{Listing}
use Rattle.std.proofs.lemmas.Result.{IfOk-weaker}
use Rattle.channel_bundles.proofs.Bundling.{chosen_members, few_places}
use Rattle.channel_bundles.proofs.channel.class_bundle.Goals as goal

pub rules_of-requires-clause-members : goal.rules_of-requires-clause-members
rules_of-requires-clause-members c =
    subst (All IsMember) (sym (c.deref.ensures.value ∙ c.in_ok-runs.ensures)) (chosen_members c.args.members.now c.args.places.now c.requires.within c.requires.members)

pub rules_of-requires-clause-few : goal.rules_of-requires-clause-few
rules_of-requires-clause-few c =
    let e = c.deref.ensures.value ∙ c.in_ok-runs.ensures in
    omega (arith, ap length e, length-map {B = Member} c.args.places.now (member_at c.args.members.now), few_places c.args.places.now (length c.args.members.now) c.requires.places c.requires.within, c.requires.few)

pub returns : goal.returns
returns c =
    let fits : FitsSigned w64 c.args.nudge = search rules in
    let with = simp to_z-of_z at c.bundle_with.ensures in
    let listed = simp to_z-of_z at c.in_ok-rules.ensures in
    let all = listed ∙ ap (rules_after c.args.nudge 0) (c.deref.ensures.value ∙ c.in_ok-runs.ensures) in
    let ms = members_at c.args.members.now c.args.places.now in
    IfOk-weaker c.bundle_with.result (IsBundleWith c.args.nudge ms c.in_ok-rules.rules.items) (IsListed Listing.All c.args.nudge ms)
    (λ b is. record { items = is.items; rules = is.rules ∙ all; wanted = is.wanted; runs = is.runs }) with
