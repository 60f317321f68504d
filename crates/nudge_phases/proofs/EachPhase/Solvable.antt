-- A solver accepts the bundles of a phase.
use Rattle.std.proofs.Common.{◌≡◌, ℕ, suc, ◌+◌, ◌-◌, ◌<◌, ◌≤◌, ℤ, Some, Bool, true, false, List, [], ◌∷◌, map, length, get_or, if◌then◌else◌, inl, inr, refl, sym, ap, subst, ◌∙◌, arith}
use Rattle.std.specs.Prelude.{All, slice_get}
use Rattle.std.proofs.lemmas.Bool.{cases_Bool}
use Rattle.std.proofs.lemmas.Int.{ints}
use Rattle.std.proofs.lemmas.List.{get_or-map, length-map, length-append}
use Rattle.std.proofs.lemmas.List.Elements.{All-nil, All-cons, All-same, All-append, All-map, All-contains, All-get_or}
use Rattle.std.proofs.lemmas.List.Sorted.{All-permutation, length_permutation}
use Rattle.plane_geom.specs.declared.point.Way.{Way}
use Rattle.plane_geom.specs.declared.point.Way.TheVariants.{Vertical, Horizontal}
use Rattle.plane_geom.specs.declared.rect.Solid.{Solid}
use Rattle.plane_geom.specs.Point.{IsCoordinate}
use Rattle.segment_order.specs.declared.run.Run.{Run}
use Rattle.plane_geom.specs.Along.{along}
use Rattle.segment_order.specs.Run.{run_at, start_of_run, end_of_run}
use Rattle.separation_model.specs.Bundle.{IsBundle, int_at, most_items}
use Rattle.channel_bundles.specs.declared.route.PhaseRoute.{PhaseRoute}
use Rattle.channel_bundles.specs.declared.member.Member.{Member}
use Rattle.channel_bundles.specs.declared.channel.RunBundle.{RunBundle}
use Rattle.channel_bundles.specs.Classes.{Rise}
use Rattle.channel_bundles.specs.Route.{IsFixed, IsPhaseRoute, is_way, of_way, runs_of_way}
use Rattle.channel_bundles.specs.Limits.{MayMove, MayStandAt}
use Rattle.channel_bundles.specs.Links.{IsMember, IsNudge, member_at}
use Rattle.channel_bundles.specs.Bundles.{AreBundles, IsStanding, Standing, members_at, members_of}
use Rattle.channel_bundles.proofs.Bundling.{chosen_members, chosen_rising, few_places, good_bundle}
use Rattle.channel_bundles.proofs.Placing.{are_rising}
use Rattle.nudge_phases.specs.Moved.{corner, moved_run, stretch}
use Rattle.nudge_phases.specs.Phase.{IsPhase}
use Rattle.nudge_phases.specs.Ready.{HaveFewRuns}
use Rattle.nudge_phases.proofs.MovedRuns.Ends.{stretch_way}
use Rattle.nudge_phases.proofs.MovedRuns.Bundled.{IsRunOf, standing_run}

pub own_way : (a way : Way) → is_way a way ≡ true → a ≡ way
own_way Vertical Vertical e = refl
own_way Vertical Horizontal e = cc
own_way Horizontal Vertical e = cc
own_way Horizontal Horizontal e = refl

-- the runs of a way are of that way
all_own : (way : Way) (runs : List Run) → All (λ (r : Run). r.way ≡ way) (of_way way runs)
all_own way [] = All-nil (λ (r : Run). r.way ≡ way)
all_own way (r ∷ rs) = elim (cases_Bool (is_way r.way way)) as (λ _. All (λ (s : Run). s.way ≡ way) (of_way way (r ∷ rs))) [
  | inl own ↦ All-same (λ (s : Run). s.way ≡ way) _ (r ∷ of_way way rs) (ap (λ b. if b then r ∷ of_way way rs else of_way way rs) own)
      (All-cons (λ (s : Run). s.way ≡ way) r (of_way way rs) (own_way r.way way own) (all_own way rs))
  | inr other ↦ All-same (λ (s : Run). s.way ≡ way) _ (of_way way rs) (ap (λ b. if b then r ∷ of_way way rs else of_way way rs) other) (all_own way rs)
]

abbrev IsOwn : Way → PhaseRoute × Run → Type 0
IsOwn way p = p.1.way ≡ way

all_own_runs : (way : Way) (routes : List PhaseRoute) → All (IsOwn way) (runs_of_way way routes)
all_own_runs way [] = All-nil (IsOwn way)
all_own_runs way (route ∷ routes) =
    All-append (IsOwn way) (map (λ (r : Run). (route, r)) (of_way way route.runs.items)) (runs_of_way way routes)
    (All-map (IsOwn way) (λ (r : Run). (route, r)) (of_way way route.runs.items) (all_own way route.runs.items)) (all_own_runs way routes)

module _ (solids : List Solid) (routes : List PhaseRoute) (way : Way) (nudge : ℤ) (found : List RunBundle) (are : AreBundles solids routes way nudge found)
    (good : All IsPhaseRoute routes) (movable : All (MayMove solids way) routes) (few : length (runs_of_way way routes) ≤ most_items) (is_nudge : IsNudge nudge) where
  abbrev all : List Standing
  all = are.all

  abbrev members : List Member
  members = members_of all

  own_run : (i : ℕ) (d : Standing) → i < length all → (get_or all i d).member.run.way ≡ way
  own_run i d h =
      let f : Standing → PhaseRoute × Run = λ s. (s.route, s.member.run) in
      let pairs = All-permutation (IsOwn way) (runs_of_way way routes) (map f all) are.in_order.once (all_own_runs way routes) in
      subst (IsOwn way) (get_or-map f all i d (f d) h) (All-get_or (IsOwn way) (map f all) i (f d) (omega (arith, h, length-map {B = PhaseRoute × Run} all f)) pairs)

  is_item : (s : Standing) → IsStanding solids s → IsRunOf routes (s.route, s.member.run) → s.member.run.way ≡ way → IsMember s.member
  is_item s is among own =
      let m = s.member in
      let route = All-contains IsPhaseRoute routes s.route good among.route in
      let rs = s.route.runs.items in
      let index : m.run.place - 1 ≡ among.index = omega (arith, ap (λ (r : Run). r.place) (sym among.here) ∙ route.runs.places among.index among.in_list) in
      let k = m.run.place - 1 in
      let here : run_at rs k ≡ m.run = ap (run_at rs) index ∙ among.here in
      let inside : k < length rs = omega (arith, index, among.in_list) in
      let run = route.runs.each k inside in
      let at : (run_at rs k).at ≡ m.run.at = ap (λ (r : Run). r.at) here in
      let weight_low : 1 ≤ m.weight = omega (arith, is.weight, route.weight_low) in
      let weight_high : m.weight ≤ 4 = omega (arith, is.weight, route.weight_high) in
      elim (cases_Bool m.fixed) as (λ _. IsMember m) [
        | inl stays ↦ (let ends = is.limits.fixed (is.fixed.0 stays) in
            record {
              lo = subst IsCoordinate (sym ends.0) run.at;
              hi = subst IsCoordinate (sym ends.1) run.at;
              want_low = omega (arith, ints, ends.0, at);
              want_high = omega (arith, ints, ends.1, at);
              weight_low = weight_low;
              weight_high = weight_high;
            })
        | inr moves ↦ (let free : IsFixed s.route k → ⊥ = λ f. (let no : false ≡ true = sym moves ∙ is.fixed.1 f in cc) in
            let may : MayStandAt solids s.route k (run_at rs k).at =
            All-contains (MayMove solids way) routes s.route movable among.route k inside (ap (λ (r : Run). r.way) here ∙ own) free in
            let within = (is.limits.movable free (run_at rs k).at).0 may in
            let low_may : MayStandAt solids s.route k m.low = (is.limits.movable free m.low).1 (omega (arith, ints), omega (arith, ints, within.0, within.1)) in
            let high_may : MayStandAt solids s.route k m.high = (is.limits.movable free m.high).1 (omega (arith, ints, within.0, within.1), omega (arith, ints)) in
            record {
              lo = low_may.within;
              hi = high_may.within;
              want_low = omega (arith, ints, within.0, at);
              want_high = omega (arith, ints, within.1, at);
              weight_low = weight_low;
              weight_high = weight_high;
            })
      ]

  all_items : All IsMember members
  all_items = All-map IsMember (λ (s : Standing). s.member) all
      (λ i d h. is_item (get_or all i d) (are.in_order.each i d h) (standing_run way routes all i d are.in_order.once h) (own_run i d h))

  few_members : length members ≤ most_items
  few_members =
      let f : Standing → PhaseRoute × Run = λ s. (s.route, s.member.run) in
      omega (arith, few, length-map {B = Member} all (λ s. s.member), length-map {B = PhaseRoute × Run} all f, length_permutation (runs_of_way way routes) (map f all) are.in_order.once)

  pub solvable : All (λ (b : RunBundle). IsBundle b.bundle) found
  solvable k d h =
      let classes = are.bundles.classes in
      let class = get_or classes k [] in
      let in_classes : k < length classes = omega (arith, h, are.bundles.count) in
      let within = All-get_or (All (λ i. i < length members)) classes k [] in_classes are.bundles.are_classes.within in
      let rise = All-get_or Rise classes k [] in_classes are.bundles.are_classes.rising in
      let ms = members_at members class in
      let of = are.bundles.each k d h in
      let count : length ms ≤ most_items = omega (arith, few_members, few_places class (length members) rise within, length-map {B = Member} class (member_at members)) in
      good_bundle nudge ms (get_or found k d).bundle (chosen_members members class within all_items) count
      (chosen_rising members class rise within (are_rising all are.in_order.sorted)) is_nudge of.items of.rules of.wanted

-- the runs of a phase keep their ways
way_by : (b : Bool) (r s t : Run) → s.way ≡ r.way → t.way ≡ r.way → (if b then s else t).way ≡ r.way
way_by true r s t e f = e
way_by false r s t e f = f

moved_way : (way : Way) (runs : List Run) (ats : List ℤ) (k : ℕ) → (moved_run way runs ats k).way ≡ (run_at runs k).way
moved_way way runs ats k =
    let r = run_at runs k in
    let from = corner way runs ats (k - 1) (along r.way (start_of_run r)) in
    let to = corner way runs ats (k + 1) (along r.way (end_of_run r)) in
    way_by (is_way r.way way) r (record r { at = int_at ats k }) (stretch r.heading r from to) refl (stretch_way r.heading r from to)

as_many_by : (way : Way) (a b : Way) (r s : Run) (rs ss : List Run) → a ≡ b → length rs ≡ length ss → length (if is_way a way then r ∷ rs else rs) ≡ length (if is_way b way then s ∷ ss else ss)
as_many_by way a b r s rs ss e count = ap (λ c. length (if is_way c way then r ∷ rs else rs)) e ∙ by (is_way b way)
  where
    by : (t : Bool) → length (if t then r ∷ rs else rs) ≡ length (if t then s ∷ ss else ss)
    by true = ap suc count
    by false = count

as_many_runs : (way : Way) (rs ss : List Run) → length rs ≡ length ss → ((k : ℕ) → k < length rs → (run_at rs k).way ≡ (run_at ss k).way) → length (of_way way rs) ≡ length (of_way way ss)
as_many_runs way [] [] count ways = refl
as_many_runs way [] (s ∷ ss) count ways = absurd (omega arith)
as_many_runs way (r ∷ rs) [] count ways = absurd (omega arith)
as_many_runs way (r ∷ rs) (s ∷ ss) count ways =
    as_many_by way r.way s.way r s (of_way way rs) (of_way way ss) (ways 0 (omega arith)) (as_many_runs way rs ss (omega arith) (λ k h. ways (suc k) (omega arith)))

as_many_in_all : (way : Way) (before after : List PhaseRoute) → length after ≡ length before →
    ((k : ℕ) (r s : PhaseRoute) → slice_get before k ≡ Some r → slice_get after k ≡ Some s → length (of_way way s.runs.items) ≡ length (of_way way r.runs.items)) →
    length (runs_of_way way after) ≡ length (runs_of_way way before)
as_many_in_all way [] [] count each = refl
as_many_in_all way [] (s ∷ after) count each = absurd (omega arith)
as_many_in_all way (r ∷ before) [] count each = absurd (omega arith)
as_many_in_all way (r ∷ before) (s ∷ after) count each =
    let rest = as_many_in_all way before after (omega arith) (λ k a b at_a at_b. each (suc k) a b at_a at_b) in
    let one = each 0 r s refl refl in
    let whole : (route : PhaseRoute) (routes : List PhaseRoute) → length (runs_of_way way (route ∷ routes)) ≡ length (of_way way route.runs.items) + length (runs_of_way way routes) = λ route routes.
    length-append (map (λ (t : Run). (route, t)) (of_way way route.runs.items)) (runs_of_way way routes)
    ∙ ap (λ n. n + length (runs_of_way way routes)) (length-map {B = PhaseRoute × Run} (of_way way route.runs.items) (λ t. (route, t))) in
    omega (arith, whole s after, whole r before, rest, one)

-- a phase keeps the number of runs of each way
pub as_many : (solids : List Solid) (before : List PhaseRoute) (way : Way) (nudge : ℤ) (after : List PhaseRoute) → IsPhase solids before way nudge after →
    (other : Way) → length (runs_of_way other after) ≡ length (runs_of_way other before)
as_many solids before way nudge after phase other = as_many_in_all other before after phase.count
    (λ k r s at_r at_s.
    let moved = phase.moved k r s at_r at_s in
    as_many_runs other s.runs.items r.runs.items moved.count
    (λ j h. let h_r : j < length r.runs.items = omega (arith, h, moved.count) in ap (λ (t : Run). t.way) (moved.runs j h_r) ∙ moved_way way r.runs.items moved.ats j))

pub few_after : (solids : List Solid) (before : List PhaseRoute) (way : Way) (nudge : ℤ) (after : List PhaseRoute) → IsPhase solids before way nudge after →
    HaveFewRuns before → HaveFewRuns after
few_after solids before way nudge after phase few other = omega (arith, few other, as_many solids before way nudge after phase other)
