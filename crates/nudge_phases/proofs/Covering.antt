-- The bundles of a phase hold the runs of its way, and no others.
use Rattle.std.proofs.Common.{◌≡◌, ℕ, suc, zero, ◌<◌, ℤ, true, Some, List, [], ◌∷◌, map, length, get_or, inl, inr, refl, sym, ap, subst, ◌∙◌, arith, if◌then◌else◌}
use Rattle.std.specs.Prelude.{slice_get, All, Contains}
use Rattle.std.specs.List.Sorted.{IsPermutation}
use Rattle.std.proofs.lemmas.Bool.{cases_Bool}
use Rattle.std.proofs.lemmas.List.{get_or-map, length-map, get_or_default}
use Rattle.std.proofs.lemmas.List.Elements.{All-nil, All-cons, All-same, All-append, All-map, All-get_or, All-contains, All-contains_itself, Contains-append_left, Contains-append_right}
use Rattle.std.proofs.lemmas.List.Sorted.{All-permutation, IsPermutation-sym}
use Rattle.std.proofs.lemmas.Option.{slice_get_within, slice_get-get_or, get_or_from_slice_get}
use Rattle.plane_geom.specs.declared.point.Way.{Way}
use Rattle.plane_geom.specs.declared.point.Way.TheVariants.{Vertical, Horizontal}
use Rattle.plane_geom.specs.declared.rect.Solid.{Solid}
use Rattle.segment_order.specs.declared.run.Run.{Run}
use Rattle.segment_order.specs.Run.{no_run}
use Rattle.separation_model.specs.Bundle.{IsBundle}
use Rattle.channel_bundles.specs.declared.route.PhaseRoute.{PhaseRoute}
use Rattle.channel_bundles.specs.declared.member.Member.{Member}
use Rattle.channel_bundles.specs.declared.channel.RunBundle.{RunBundle}
use Rattle.channel_bundles.specs.Route.{is_way, of_way, runs_of_way}
use Rattle.channel_bundles.specs.Links.{item_of, member_at, no_member}
use Rattle.channel_bundles.specs.Bundles.{AreBundles, AreBundlesOf, IsBundleOf, Standing, members_at, members_of}
use Rattle.channel_bundles.proofs.Placing.{is_own}
use Rattle.nudge_phases.proofs.MovedRuns.Bundled.{IsRunOf, are_runs_of}
use Rattle.nudge_phases.specs.Steps.{AreBundlesIn, IsRunIn}
use Rattle.nudge_phases.proofs.RouteRuns.{some_read}

same_way : (a way : Way) → is_way a way ≡ true → a ≡ way
same_way Vertical Vertical e = refl
same_way Vertical Horizontal e = cc
same_way Horizontal Vertical e = cc
same_way Horizontal Horizontal e = refl

-- the runs of the way are of the way
all_ways : (way : Way) (runs : List Run) → All (λ (r : Run). r.way ≡ way) (of_way way runs)
all_ways way [] = All-nil (λ (r : Run). r.way ≡ way)
all_ways way (r ∷ rs) =
    let P = λ (s : Run). s.way ≡ way in
    elim (cases_Bool (is_way r.way way)) as (λ _. All P (of_way way (r ∷ rs))) [
      | inl own ↦ All-same P _ (r ∷ of_way way rs) (ap (λ b. if b then r ∷ of_way way rs else of_way way rs) own) (All-cons P r (of_way way rs) (same_way r.way way own) (all_ways way rs))
      | inr other ↦ All-same P _ (of_way way rs) (ap (λ b. if b then r ∷ of_way way rs else of_way way rs) other) (all_ways way rs)
    ]

all_of_way : (way : Way) (routes : List PhaseRoute) → All (λ (p : PhaseRoute × Run). p.1.way ≡ way) (runs_of_way way routes)
all_of_way way [] = All-nil (λ (p : PhaseRoute × Run). p.1.way ≡ way)
all_of_way way (route ∷ routes) =
    let P = λ (p : PhaseRoute × Run). p.1.way ≡ way in
    All-append P (map (λ (r : Run). (route, r)) (of_way way route.runs.items)) (runs_of_way way routes)
    (All-map P (λ (r : Run). (route, r)) (of_way way route.runs.items) (all_ways way route.runs.items)) (all_of_way way routes)

run_in : (way : Way) (routes : List PhaseRoute) (p : PhaseRoute × Run) → IsRunOf routes p → p.1.way ≡ way → IsRunIn routes way p.1
run_in way routes p is own = record {
  place = is.route.0;
  index = is.index;
  route = p.0;
  of_route = slice_get-get_or routes is.route.0 p.0 is.route.1 ∙ ap Some is.route.2;
  here = slice_get-get_or p.0.runs.items is.index no_run is.in_list ∙ ap Some is.here;
  is_way = own;
}

-- a run of the way is among the runs of the way
in_own : (way : Way) (runs : List Run) (k : ℕ) (r : Run) → slice_get runs k ≡ Some r → r.way ≡ way → Contains (of_way way runs) r
in_own way [] k r e own = cc
in_own way (s ∷ rs) zero r e own =
    let same : s ≡ r = cc in
    let whole : of_way way (s ∷ rs) ≡ s ∷ of_way way rs = ap (λ b. if b then s ∷ of_way way rs else of_way way rs) (is_own s.way way (ap (λ (q : Run). q.way) same ∙ own)) in
    subst (λ xs. Contains xs r) (sym whole) (0, omega arith, same)
in_own way (s ∷ rs) (suc k) r e own =
    let later = in_own way rs k r e own in
    elim (cases_Bool (is_way s.way way)) as (λ _. Contains (of_way way (s ∷ rs)) r) [
      | inl here ↦ subst (λ b. Contains (if b then s ∷ of_way way rs else of_way way rs) r) (sym here) (Contains-append_right (s ∷ []) (of_way way rs) r later)
      | inr other ↦ subst (λ b. Contains (if b then s ∷ of_way way rs else of_way way rs) r) (sym other) later
    ]

in_pairs : (route : PhaseRoute) (runs : List Run) (r : Run) → Contains runs r → Contains {X = PhaseRoute × Run} (map (λ (s : Run). (route, s)) runs) (route, r)
in_pairs route runs r (k, h, e) =
    (k, omega (arith, h, length-map {B = PhaseRoute × Run} runs (λ s. (route, s))), get_or-map (λ (s : Run). (route, s)) runs k r (route, r) h ∙ ap (λ (s : Run). (let p : PhaseRoute × Run = (route, s) in p)) e)

in_all : (way : Way) (routes : List PhaseRoute) (i k : ℕ) (route : PhaseRoute) (r : Run) → slice_get routes i ≡ Some route → slice_get route.runs.items k ≡ Some r → r.way ≡ way → Contains {X = PhaseRoute × Run} (runs_of_way way routes) (route, r)
in_all way [] i k route r at_route at_r own = cc
in_all way (t ∷ routes) zero k route r at_route at_r own =
    let same : t ≡ route = cc in
    Contains-append_left (map (λ (s : Run). (t, s)) (of_way way t.runs.items)) (runs_of_way way routes) (route, r)
    (subst (λ (q : PhaseRoute). Contains {X = PhaseRoute × Run} (map (λ (s : Run). (q, s)) (of_way way q.runs.items)) (route, r)) (sym same) (in_pairs route (of_way way route.runs.items) r (in_own way route.runs.items k r at_r own)))
in_all way (t ∷ routes) (suc i) k route r at_route at_r own =
    Contains-append_right (map (λ (s : Run). (t, s)) (of_way way t.runs.items)) (runs_of_way way routes) (route, r) (in_all way routes i k route r at_route at_r own)

in_permutation : {X : Type 0} (xs ys : List X) (x : X) → IsPermutation xs ys → Contains xs x → Contains ys x
in_permutation xs ys x moves has = All-contains (Contains ys) xs x (All-permutation (Contains ys) ys xs (IsPermutation-sym xs ys moves) (All-contains_itself ys)) has

module _ (solids : List Solid) (routes : List PhaseRoute) (way : Way) (nudge : ℤ) (found : List RunBundle) (bundles : AreBundles solids routes way nudge found) where
  abbrev all : List Standing
  all = bundles.all

  abbrev members : List Member
  members = members_of all

  abbrev made : AreBundlesOf nudge members found
  made = bundles.bundles

  abbrev pair_of : Standing → PhaseRoute × Run
  pair_of s = (s.route, s.member.run)

  as_many : length members ≡ length all
  as_many = length-map {B = Member} all (λ s. s.member)

  abbrev class_of : ℕ → List ℕ
  class_of k = get_or made.classes k []

  bundle_is : (k : ℕ) (b : RunBundle) → slice_get found k ≡ Some b → IsBundleOf nudge (members_at members (class_of k)) b
  bundle_is k b e = subst (IsBundleOf nudge (members_at members (class_of k))) (get_or_from_slice_get found k b b e) (made.each k b (slice_get_within found k b e))

  -- the run at the place of the order is one of the routes'
  order_run : (i : ℕ) → i < length members → IsRunIn routes way (member_at members i).run
  order_run i h =
      let st = some_read all i (omega (arith, h, as_many)) in
      let in_i = slice_get_within all i st.0 st.1 in
      let once = bundles.in_order.once in
      let is_of = λ (k : ℕ) (p : PhaseRoute × Run) (l : k < length (runs_of_way way routes)). run_in way routes (get_or (runs_of_way way routes) k p) (are_runs_of way routes k p l) (all_of_way way routes k p l) in
      let pairs = All-permutation (λ (p : PhaseRoute × Run). IsRunIn routes way p.1) (runs_of_way way routes) (map pair_of all) once is_of in
      let pair = All-get_or (λ (p : PhaseRoute × Run). IsRunIn routes way p.1) (map pair_of all) i (pair_of st.0) (omega (arith, in_i, length-map {B = PhaseRoute × Run} all pair_of)) pairs in
      let is_pair : get_or (map pair_of all) i (pair_of st.0) ≡ pair_of st.0 = get_or-map pair_of all i st.0 (pair_of st.0) in_i ∙ ap pair_of (get_or_from_slice_get all i st.0 st.0 st.1) in
      let is_member : member_at members i ≡ st.0.member = get_or-map (λ (s : Standing). s.member) all i st.0 no_member in_i ∙ ap (λ (s : Standing). s.member) (get_or_from_slice_get all i st.0 st.0 st.1) in
      subst (IsRunIn routes way) (ap (λ (p : PhaseRoute × Run). p.1) is_pair ∙ ap (λ (m : Member). m.run) (sym is_member)) pair

  own_runs : (k : ℕ) (b : RunBundle) → slice_get found k ≡ Some b → All (IsRunIn routes way) b.runs.items
  own_runs k b e =
      let in_classes : k < length made.classes = omega (arith, slice_get_within found k b e, made.count) in
      let within = All-get_or (All (λ j. j < length members)) made.classes k [] in_classes made.are_classes.within in
      subst (All (IsRunIn routes way)) (sym (bundle_is k b e).runs)
      (All-map (IsRunIn routes way) (λ (m : Member). m.run) (members_at members (class_of k))
      (All-map (λ (m : Member). IsRunIn routes way m.run) (member_at members) (class_of k) (λ j d h. order_run (get_or (class_of k) j d) (within j d h))))

  as_items : (k : ℕ) (b : RunBundle) → slice_get found k ≡ Some b → length b.runs.items ≡ length b.bundle.items.items
  as_items k b e =
      let is = bundle_is k b e in
      let ms = members_at members (class_of k) in
      ap length is.runs ∙ length-map {B = Run} ms (λ m. m.run) ∙ sym (ap length is.items ∙ length-map ms item_of)

  each_read : (P : RunBundle → Type 0) → ((k : ℕ) (b : RunBundle) → slice_get found k ≡ Some b → P b) → All P found
  each_read P each k d h = each k (get_or found k d) (slice_get-get_or found k d h)

  -- each run of the way is in a bundle
  covered : (r : Run) → IsRunIn routes way r → (b : RunBundle) × Contains found b × Contains b.runs.items r
  covered r is =
      let pairs = map pair_of all in
      let has : Contains {X = PhaseRoute × Run} pairs (is.route, r) = in_permutation (runs_of_way way routes) pairs (is.route, r) bundles.in_order.once (in_all way routes is.place is.index is.route r is.of_route is.here is.is_way) in
      let i = has.0 in
      let in_i : i < length all = omega (arith, has.1, length-map {B = PhaseRoute × Run} all pair_of) in
      let st = some_read all i in_i in
      let st_is = get_or_from_slice_get all i st.0 st.0 st.1 in
      let pair_is : pair_of st.0 ≡ (is.route, r) = sym (get_or-map pair_of all i st.0 (is.route, r) in_i ∙ ap pair_of st_is) ∙ has.2 in
      let member_is : (member_at members i).run ≡ r = ap (λ (m : Member). m.run) (get_or-map (λ (s : Standing). s.member) all i st.0 no_member in_i ∙ ap (λ (s : Standing). s.member) st_is) ∙ ap (λ (p : PhaseRoute × Run). p.1) pair_is in
      let (places, has_class, has_place) = made.are_classes.whole i (omega (arith, in_i, as_many)) in
      let c = has_class.0 in
      let in_c : c < length found = omega (arith, has_class.1, made.count) in
      let b = some_read found c in_c in
      let class_is : class_of c ≡ places = get_or_default made.classes c [] places has_class.1 ∙ has_class.2 in
      let runs_are : b.0.runs.items ≡ map (λ (m : Member). m.run) (members_at members places) = (bundle_is c b.0 b.1).runs ∙ ap (λ ps. map (λ (m : Member). m.run) (members_at members ps)) class_is in
      let m = has_place.0 in
      let in_members : m < length (members_at members places) = omega (arith, has_place.1, length-map places (member_at members)) in
      let read : get_or (map (λ (n : Member). n.run) (members_at members places)) m r ≡ r =
      get_or-map (λ (n : Member). n.run) (members_at members places) m no_member r in_members
      ∙ ap (λ (n : Member). n.run) (get_or-map (member_at members) places m i no_member has_place.1 ∙ ap (member_at members) has_place.2) ∙ member_is in
      let in_runs : Contains (map (λ (n : Member). n.run) (members_at members places)) r = (m, omega (arith, in_members, length-map {B = Run} (members_at members places) (λ n. n.run)), read) in (
        b.0,
        (c, in_c, get_or_from_slice_get found c b.0 b.0 b.1),
        subst (λ xs. Contains xs r) (sym runs_are) in_runs,
      )

  pub bundles_in : All (λ b. IsBundle b.bundle) found → AreBundlesIn routes way found
  bundles_in good = record {
    good = good;
    items = each_read (λ (b : RunBundle). length b.runs.items ≡ length b.bundle.items.items) as_items;
    own = each_read (λ (b : RunBundle). All (IsRunIn routes way) b.runs.items) own_runs;
    whole = covered;
  }
