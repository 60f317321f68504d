-- The routes of a phase have one list of bundles.
use Rattle.std.proofs.Common.{◌≡◌, ◌≢◌, ◌↔◌, ℕ, ◌-◌, ◌<◌, ℤ, ◌≤ℤ◌, Bool, true, false, IsTrue, List, [], length, get_or, inl, inr, refl, sym, ap, subst, ◌∙◌, arith}
use Rattle.std.specs.Prelude.{All, AllPairs}
use Rattle.std.proofs.lemmas.Bool.{cases_Bool}
use Rattle.std.proofs.lemmas.Int.{ints}
use Rattle.std.proofs.lemmas.List.{get_or-map, length-map, get_or_default, same_lists}
use Rattle.std.proofs.lemmas.List.Elements.{All-get_or}
use Rattle.std.proofs.lemmas.Option.{slice_get_cases}
use Rattle.plane_geom.specs.declared.point.Way.{Way}
use Rattle.plane_geom.specs.declared.rect.Solid.{Solid}
use Rattle.segment_order.specs.declared.run.Run.{Run}
use Rattle.separation_model.specs.declared.bundle.Item.{Item}
use Rattle.separation_model.specs.Bundle.{IsBundle, IsItem}
use Rattle.channel_bundles.specs.declared.route.PhaseRoute.{PhaseRoute}
use Rattle.channel_bundles.specs.declared.member.Member.{Member}
use Rattle.channel_bundles.specs.declared.channel.RunBundle.{RunBundle}
use Rattle.channel_bundles.specs.Route.{IsFixed, IsPhaseRoute}
use Rattle.channel_bundles.specs.Limits.{HasLimits}
use Rattle.channel_bundles.specs.Links.{IsLink, item_of, member_at, no_member}
use Rattle.channel_bundles.specs.Bundles.{Standing, IsStanding, IsBundleOf, AreBundles, AreBundlesOf, members_at, members_of}
use Rattle.channel_bundles.specs.Classes.{Connected}
use Rattle.nudge_phases.specs.Alike.{AreAlike}
use Rattle.nudge_phases.proofs.OneOfEach.OneList.{same_classes}
use Rattle.nudge_phases.proofs.OneOfEach.OneOrder.{same_pairs}

-- what is known of a run determines its limits, where there are any
same_truth : (x y : Bool) → (IsTrue x → IsTrue y) → (IsTrue y → IsTrue x) → x ≡ y
same_truth true true f g = refl
same_truth true false f g = sym (f refl)
same_truth false true f g = g refl
same_truth false false f g = refl

same_member : (a b : Member) → a.run ≡ b.run → a.fixed ≡ b.fixed → a.low ≡ b.low → a.high ≡ b.high → a.weight ≡ b.weight → a ≡ b
same_member a b run fixed low high weight = λ i. record { run = run i; fixed = fixed i; low = low i; high = high i; weight = weight i }

-- two pairs of limits of one run
same_limits : (solids : List Solid) (route : PhaseRoute) (k : ℕ) (fixed : Bool) (low high other_low other_high : ℤ) → (IsTrue fixed ↔ IsFixed route k) → low ≤ℤ high →
    HasLimits solids route k low high → HasLimits solids route k other_low other_high → (low ≡ other_low) × (high ≡ other_high)
same_limits solids route k fixed low high other_low other_high is some one two =
    elim (cases_Bool fixed) as (λ _. (low ≡ other_low) × (high ≡ other_high)) [
      | inl stays ↦ (let f = is.0 stays in ((one.fixed f).0 ∙ sym (two.fixed f).0, (one.fixed f).1 ∙ sym (two.fixed f).1))
      | inr moves ↦ (let free : IsFixed route k → ⊥ = λ f. (let no : false ≡ true = sym moves ∙ is.1 f in cc) in
          let there : (z : ℤ) → low ≤ℤ z → z ≤ℤ high → (other_low ≤ℤ z) × (z ≤ℤ other_high) = λ z h g. (two.movable free z).0 ((one.movable free z).1 (h, g)) in
          let back : (z : ℤ) → other_low ≤ℤ z → z ≤ℤ other_high → (low ≤ℤ z) × (z ≤ℤ high) = λ z h g. (one.movable free z).0 ((two.movable free z).1 (h, g)) in
          let at_low = there low (omega (arith, ints)) some in
          let at_high = there high some (omega (arith, ints)) in
          let from_low = back other_low (omega (arith, ints)) (omega (arith, ints, at_low.0, at_low.1)) in
          let from_high = back other_high (omega (arith, ints, at_low.0, at_low.1)) (omega (arith, ints)) in
          (omega (arith, ints, at_low.0, from_low.0), omega (arith, ints, at_high.1, from_high.1)))
    ]

one_member : (solids : List Solid) (a b : Standing) → IsStanding solids a → IsStanding solids b → a.route ≡ b.route → a.member.run ≡ b.member.run → a.member.low ≤ℤ a.member.high → a.member ≡ b.member
one_member solids a b one two route run some =
    let k = b.member.run.place - 1 in
    let index : a.member.run.place - 1 ≡ k = ap (λ (r : Run). r.place - 1) run in
    let is : IsTrue a.member.fixed ↔ IsFixed b.route k = subst (λ (r : PhaseRoute). IsTrue a.member.fixed ↔ IsFixed r k) route (subst (λ j. IsTrue a.member.fixed ↔ IsFixed a.route j) index one.fixed) in
    let limits : HasLimits solids b.route k a.member.low a.member.high = subst (λ (r : PhaseRoute). HasLimits solids r k a.member.low a.member.high) route (subst (λ j. HasLimits solids a.route j a.member.low a.member.high) index one.limits) in
    let same = same_limits solids b.route k a.member.fixed a.member.low a.member.high b.member.low b.member.high is some limits two.limits in
    same_member a.member b.member run
    (same_truth a.member.fixed b.member.fixed (λ t. two.fixed.1 (is.0 t)) (λ t. is.1 (two.fixed.0 t)))
    same.0 same.1 (one.weight ∙ ap (λ (r : PhaseRoute). r.weight) route ∙ sym two.weight)

-- the runs of a bundle that a solver accepts have limits
limits_hold : (nudge : ℤ) (members : List Member) (found : List RunBundle) → AreBundlesOf nudge members found → All (λ (b : RunBundle). IsBundle b.bundle) found → (k : ℕ) → k < length members →
    (member_at members k).low ≤ℤ (member_at members k).high
limits_hold nudge members found are good k h =
    let class = are.are_classes.whole k h in
    let places = class.0 in
    let c = class.1.0 in
    let n = class.2.0 in
    let class_is : get_or are.classes c [] ≡ places = get_or_default are.classes c [] places class.1.1 ∙ class.1.2 in
    let place_is : get_or places n 0 ≡ k = get_or_default places n 0 k class.2.1 ∙ class.2.2 in
    elim (slice_get_cases found c).1 as (λ _. (member_at members k).low ≤ℤ (member_at members k).high) [
      | inl (b, within, here, same) ↦ (let of = subst (λ ps. IsBundleOf nudge (members_at members ps) (get_or found c b)) class_is (are.each c b within) in
          let items = (get_or found c b).bundle.items.items in
          let item : Item = item_of no_member in
          let count : length items ≡ length places = ap length of.items ∙ length-map (members_at members places) item_of ∙ length-map places (member_at members) in
          let is : get_or items n item ≡ item_of (member_at members k) =
          ap (λ xs. get_or xs n item) of.items ∙ get_or-map item_of (members_at members places) n no_member item (omega (arith, length-map places (member_at members), class.2.1))
          ∙ ap item_of (get_or-map (member_at members) places n 0 no_member class.2.1 ∙ ap (member_at members) place_is) in
          let ok = subst IsItem is (All-get_or IsItem items n item (omega (arith, count, class.2.1)) (All-get_or (λ (d : RunBundle). IsBundle d.bundle) found c b within good).items) in
          omega (arith, ints, ok.want_low, ok.want_high))
      | inr (past, none) ↦ absurd (omega (arith, past, class.1.1, are.count))
    ]

-- of one list of runs there is one list of bundles
one_list : (nudge : ℤ) (members : List Member) (found others : List RunBundle) → AreBundlesOf nudge members found → AreBundlesOf nudge members others → AreAlike found others
one_list nudge members found others one two =
    let classes = same_classes (Connected (IsLink nudge members)) (length members) one.classes two.classes one.are_classes two.are_classes in
    record {
      count = one.count ∙ ap length classes ∙ sym two.count;
      each = λ k d h.
          let a = one.each k d h in
          let b = subst (λ cs. IsBundleOf nudge (members_at members (get_or cs k [])) (get_or others k d)) (sym classes) (two.each k d (omega (arith, h, one.count, two.count, ap length classes))) in
          record { items = a.items ∙ sym b.items; rules = a.rules ∙ sym b.rules; wanted = a.wanted ∙ sym b.wanted; runs = a.runs ∙ sym b.runs };
    }

module _ (solids : List Solid) (routes : List PhaseRoute) (way : Way) (nudge : ℤ) (good : All IsPhaseRoute routes) (edges : AllPairs (λ (r s : PhaseRoute). r.edge ≢ s.edge) routes)
    (found others : List RunBundle) (one : AreBundles solids routes way nudge found) (two : AreBundles solids routes way nudge others) (solvable : All (λ (b : RunBundle). IsBundle b.bundle) found) where
  same_members : members_of one.all ≡ members_of two.all
  same_members =
      let f : Standing → PhaseRoute × Run = λ s. (s.route, s.member.run) in
      let g : Standing → Member = λ s. s.member in
      let pairs = same_pairs solids routes way good edges one.all two.all one.in_order two.in_order in
      let count : length one.all ≡ length two.all = sym (length-map {B = PhaseRoute × Run} one.all f) ∙ ap length pairs ∙ length-map {B = PhaseRoute × Run} two.all f in
      let members = length-map {B = Member} one.all g in
      same_lists (members_of one.all) (members_of two.all) (members ∙ count ∙ sym (length-map {B = Member} two.all g))
      (λ k m h.
      elim (slice_get_cases one.all k).1 as (λ _. get_or (members_of one.all) k m ≡ get_or (members_of two.all) k m) [
        | inl (d, within, here, same) ↦ (let in_two : k < length two.all = omega (arith, within, count) in
            let a = get_or one.all k d in
            let b = get_or two.all k d in
            let pair : f a ≡ f b = sym (get_or-map f one.all k d (f d) within) ∙ ap (λ ps. get_or ps k (f d)) pairs ∙ get_or-map f two.all k d (f d) in_two in
            let at : get_or (members_of one.all) k no_member ≡ a.member = get_or-map g one.all k d no_member within in
            let some = limits_hold nudge (members_of one.all) found one.bundles solvable k (omega (arith, h)) in
            get_or-map g one.all k d m within
            ∙ one_member solids a b (All-get_or (IsStanding solids) one.all k d within one.in_order.each) (All-get_or (IsStanding solids) two.all k d in_two two.in_order.each)
            (ap (λ (p : PhaseRoute × Run). p.0) pair) (ap (λ (p : PhaseRoute × Run). p.1) pair) (subst (λ (n : Member). n.low ≤ℤ n.high) at some)
            ∙ sym (get_or-map g two.all k d m in_two))
        | inr (past, none) ↦ absurd (omega (arith, past, h, members))
      ])

  pub one_list_of_bundles : AreAlike found others
  one_list_of_bundles =
      one_list nudge (members_of one.all) found others one.bundles (subst (λ ms. AreBundlesOf nudge ms others) (sym same_members) two.bundles)
