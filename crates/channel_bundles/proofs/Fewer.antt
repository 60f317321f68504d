-- Bundles with few rules, such that each other link has a middle, stand for those with all.
use Rattle.std.proofs.Common.{◌≡◌, ◌⊎◌, ℕ, ◌<◌, ◌≤◌, ℤ, List, [], length, get_or, inl, inr, sym, subst, ◌∙◌, arith}
use Rattle.std.specs.Prelude.{All, Contains}
use Rattle.std.proofs.lemmas.List.{length-map}
use Rattle.std.proofs.lemmas.List.Elements.{All-weaker, Contains-get_or}
use Rattle.plane_geom.specs.declared.point.Way.{Way}
use Rattle.plane_geom.specs.declared.rect.Solid.{Solid}
use Rattle.separation_model.specs.declared.bundle.Rule.{Rule}
use Rattle.separation_model.specs.Bundle.{IsBundle, most_items}
use Rattle.separation_model.specs.Chains.{HasMiddle, HaveMiddles}
use Rattle.separation_model.proofs.Chains.{middles_reduce}
use Rattle.channel_bundles.specs.declared.route.PhaseRoute.{PhaseRoute}
use Rattle.channel_bundles.specs.declared.member.Member.{Member}
use Rattle.channel_bundles.specs.declared.channel.Listing.{Listing}
use Rattle.channel_bundles.specs.declared.channel.RunBundle.{RunBundle}
use Rattle.channel_bundles.specs.Bundles.{AreBundlesOf, AreInOrder, IsBundleOf, Standing, members_at, members_of}
use Rattle.channel_bundles.specs.Few.{AreAmong, AreFewBundles, IsFewOf}
use Rattle.channel_bundles.specs.Kept.{AreKept, IsLinkRule}
use Rattle.channel_bundles.specs.Links.{IsMember, IsNudge, member_at, rules_after}
use Rattle.channel_bundles.specs.Listed.{AreListedOf, IsListed}
use Rattle.channel_bundles.specs.Placed.{AreRising}
use Rattle.channel_bundles.proofs.Bundling.{chosen_members, chosen_rising, few_places, good_bundle}
use Rattle.channel_bundles.proofs.Ordered.{among_rising, link_is_rule, rule_is_link, rules_rise}
use Rattle.channel_bundles.proofs.Whole.{whole_bundles}

-- bundles with all links as rules are those of the phase
pub all_listed : (nudge : ℤ) (members : List Member) (found : List RunBundle) → AreListedOf Listing.All nudge members found → AreBundlesOf nudge members found
all_listed nudge members found are = record {
  classes = are.classes;
  are_classes = are.are_classes;
  count = are.count;
  each = λ k d h. (let is = are.each k d h in record { items = is.items; rules = is.rules; wanted = is.wanted; runs = is.runs });
}

-- kept rules are some of all
are_some : (nudge : ℤ) (ms : List Member) (few : List Rule) → AreKept nudge ms few → All (Contains (rules_after nudge 0 ms)) few
are_some nudge ms few kept = All-weaker (IsLinkRule nudge ms) (Contains (rules_after nudge 0 ms)) (link_is_rule nudge ms) few kept.each

have_middles : (nudge : ℤ) (ms : List Member) (few : List Rule) → AreKept nudge ms few → HaveMiddles (rules_after nudge 0 ms) few
have_middles nudge ms few kept = record {
  kept = are_some nudge ms few kept;
  each = λ k d h. elim (kept.whole (get_or (rules_after nudge 0 ms) k d) (rule_is_link nudge ms (get_or (rules_after nudge 0 ms) k d) (Contains-get_or (rules_after nudge 0 ms) k d h)))
      as (λ _. Contains few (get_or (rules_after nudge 0 ms) k d) ⊎ HasMiddle (rules_after nudge 0 ms) (get_or (rules_after nudge 0 ms) k d)) [
        | inl has ↦ inl has
        | inr mid ↦ inr (record { middle = mid.middle; left = link_is_rule nudge ms _ mid.left; right = link_is_rule nudge ms _ mid.right })
      ];
}

-- the bundle of the runs with such rules is one with few rules
few_of : (nudge : ℤ) (ms : List Member) (b few : RunBundle) → IsBundleOf nudge ms b → IsListed Listing.Few nudge ms few → IsBundle b.bundle → IsFewOf b few
few_of nudge ms b few is listed good =
    let all = rules_after nudge 0 ms in
    let own = few.bundle.rules.items in
    record {
      runs = listed.runs ∙ sym is.runs;
      reduced = record {
        items = listed.items ∙ sym is.items;
        wanted = listed.wanted ∙ sym is.wanted;
        rules = middles_reduce b.bundle.items.items b.bundle.rules.items own good.rules (subst (λ rs. HaveMiddles rs own) (sym is.rules) (have_middles nudge ms own listed.rules));
      };
      order = subst (AreAmong own) (sym is.rules) (among_rising own all listed.rules.rise (rules_rise nudge ms) (are_some nudge ms own listed.rules));
    }

module _ (nudge : ℤ) (members : List Member) (is_nudge : IsNudge nudge) (all : All IsMember members) (rising : AreRising members) (few_members : length members ≤ most_items)
    (few : List RunBundle) (are : AreListedOf Listing.Few nudge members few) where
  abbrev class_of : ℕ → List ℕ
  class_of k = get_or are.classes k []

  few_of_class : (places : List ℕ) → length places ≤ length members → length (members_at members places) ≤ most_items
  few_of_class places h = (let e = length-map {B = Member} places (member_at members) in omega (arith, e, h, few_members))

  most_places : (k : ℕ) (d : List ℕ) → k < length are.classes → length (get_or are.classes k d) ≤ length members
  most_places k d h = few_places (get_or are.classes k d) (length members) (are.are_classes.rising k d h) (are.are_classes.within k d h)

  pub whole : (found : List RunBundle) × (length found ≡ length are.classes) × ((k : ℕ) (d : RunBundle) → k < length are.classes → IsBundleOf nudge (members_at members (class_of k)) (get_or found k d))
  whole = whole_bundles nudge members are.classes (λ k d h. few_of_class (get_or are.classes k d) (most_places k d h))

  pub bundles : AreBundlesOf nudge members whole.0
  bundles = record {
    classes = are.classes;
    are_classes = are.are_classes;
    count = whole.1;
    each = λ k d h. whole.2 k d (omega (arith, h, whole.1));
  }

  good_at : (k : ℕ) (d : RunBundle) → k < length are.classes → IsBundle (get_or whole.0 k d).bundle
  good_at k d h =
      let ms = members_at members (class_of k) in
      let is = whole.2 k d h in
      let within = are.are_classes.within k [] h in
      good_bundle nudge ms (get_or whole.0 k d).bundle (chosen_members members (class_of k) within all) (few_of_class (class_of k) (most_places k [] h))
      (chosen_rising members (class_of k) (are.are_classes.rising k [] h) within rising) is_nudge is.items is.rules is.wanted

  pub few_bundles : (solids : List Solid) (routes : List PhaseRoute) (way : Way) (standings : List Standing) → AreInOrder solids routes way standings → members ≡ members_of standings → AreFewBundles solids routes way nudge few
  few_bundles solids routes way standings order same = record {
    found = whole.0;
    bundles = record { all = standings; in_order = order; bundles = subst (λ ms. AreBundlesOf nudge ms whole.0) same bundles };
    accepted = λ k d h. good_at k d (omega (arith, h, whole.1));
    count = are.count ∙ sym whole.1;
    each = λ k d h. (
        let in_classes : k < length are.classes = omega (arith, h, whole.1) in
        few_of nudge (members_at members (class_of k)) (get_or whole.0 k d) (get_or few k d) (whole.2 k d in_classes) (are.each k d (omega (arith, in_classes, are.count))) (good_at k d in_classes)
        );
  }
