-- A phase: bundles of its runs, a solution of each, and the routes with their runs at the solutions' places.
use Rattle.std.proofs.Common.{◌≡◌, ◌≢◌, ℕ, zero, suc, ◌<◌, ◌≤◌, ℤ, Bool, true, false, Option, Some, None, List, [], ◌∷◌, length, map, get_or, slice_get, refl, sym, ap, ◌∙◌, arith}
use Rattle.std.specs.Prelude.{All, IsSome}
use Rattle.std.specs.List.{AllZip, range_with_len}
use Rattle.std.proofs.Math.Decide.{map_dec, dec_le}
use Rattle.std.proofs.lemmas.List.{length-map}
use Rattle.std.proofs.lemmas.List.Elements.{All-contains, recursion_from_All}
use Rattle.std.proofs.lemmas.List.Sorted.{length_permutation}
use Rattle.std.proofs.lemmas.List.FromFn.{get_or-map-range_with_len, length-map-range_with_len}
use Rattle.std.proofs.lemmas.Option.{slice_get-get_or}
use Rattle.plane_geom.specs.declared.point.Way.{Way}
use Rattle.plane_geom.specs.declared.rect.Solid.{Solid}
use Rattle.segment_order.specs.declared.run.Run.{Run}
use Rattle.segment_order.specs.Run.{no_run, run_at}
use Rattle.separation_model.specs.declared.bundle.Solution.{Solution}
use Rattle.separation_model.specs.Bundle.{IsBundle, int_at, most_items}
use Rattle.separation_model.specs.Rounded.{rounded_down}
use Rattle.separation_model.proofs.Rounding.{rounded_down_is}
use Rattle.channel_bundles.specs.declared.route.PhaseRoute.{PhaseRoute}
use Rattle.channel_bundles.specs.declared.member.Member.{Member}
use Rattle.channel_bundles.specs.declared.channel.RunBundle.{RunBundle}
use Rattle.channel_bundles.specs.Route.{IsPhaseRoute, runs_of_way}
use Rattle.channel_bundles.specs.Limits.{MayMove}
use Rattle.channel_bundles.specs.Links.{IsLink, IsNudge, link, member_at}
use Rattle.channel_bundles.specs.Bundles.{AreBundles, IsBundleOf, members_at, members_of}
use Rattle.channel_bundles.proofs.Bundling.{few_places}
use Rattle.channel_bundles.proofs.Whole.{whole_bundle}
use Rattle.nudge_phases.specs.Moved.{IsPutAt, moved_run}
use Rattle.nudge_phases.specs.Phase.{IsPhase, IsSolutionOf}
use Rattle.nudge_phases.proofs.EachPhase.Solvable.{solvable}
use Rattle.nudge_phases.specs.Steps.{AreBundlesIn, AreEach, AreSolutionsOf, HasFollowed, IsPut, IsRunIn, coordinates}
use Rattle.nudge_phases.proofs.BetweenPhases.{is_phase}
use Rattle.nudge_phases.proofs.Covering.{bundles_in}
use Rattle.nudge_phases.proofs.Fewer.{vec_like}
use Rattle.nudge_phases.proofs.RouteRuns.{some_read}
use Rattle.nudge_phases.proofs.Zips.{zip_count, zip_read}
use Rattle.existence_laws.proofs.Answering.Answered.{partners}
use Rattle.existence_laws.proofs.Deciding.Decided.{both}
use Rattle.existence_laws.proofs.Nudging.Classes.{some_classes}
use Rattle.existence_laws.proofs.Nudging.Standings.{some_in_order}
use Rattle.existence_laws.proofs.Sharing.Starts.{same_way}
use Rattle.existence_laws.proofs.Solving.Solved.{some_solution}

-- lists side by side, element by element
zip_at : {X Y : Type 0} (R : X → Y → Type 0) (xs : List X) (ys : List Y) → AllZip R xs ys → (k : ℕ) (d : X) (e : Y) → k < length xs → R (get_or xs k d) (get_or ys k e)
zip_at R [] ys zip k d e l = absurd (omega (arith, l))
zip_at R (x ∷ xs) [] zip k d e l = absurd zip
zip_at R (x ∷ xs) (y ∷ ys) zip zero d e l = zip.0
zip_at R (x ∷ xs) (y ∷ ys) zip (suc k) d e l = zip_at R xs ys zip.1 k d e (omega (arith, l))

pub are_each : {X Y : Type 0} (R : X → Y → Type 0) (xs : List X) (ys : List Y) → AllZip R xs ys → AreEach R xs ys
are_each R xs ys zip = record { count = sym (zip_count R xs ys zip); each = λ k x y e f. zip_read R xs ys k x y zip e f }

-- ---- bundles

linked_decided : (nudge : ℤ) (members : List Member) (i j : ℕ) → Dec (IsLink nudge members i j)
linked_decided nudge members i j = map_dec (λ h. record { forward = h.0; within = h.1.0; linked = h.1.1 }) (λ l. (l.forward, (l.within, l.linked)))
    (both (dec_le _ _) (both (dec_le _ _) (some_decided (link nudge (member_at members i) (member_at members j)))))
  where
    some_decided : (o : Option Bool) → Dec (IsSome o)
    some_decided None = no (λ is. (let e : false ≡ true = is in cc))
    some_decided (Some b) = yes refl

module _ (solids : List Solid) (routes : List PhaseRoute) (way : Way) (nudge : ℤ) (good : All IsPhaseRoute routes) (movable : All (MayMove solids way) routes)
    (few : length (runs_of_way way routes) ≤ most_items) (is_nudge : IsNudge nudge) where
  pub some_bundles : (found : List RunBundle) × AreBundles solids routes way nudge found
  some_bundles =
      let all = some_in_order solids routes way good movable in
      let members = members_of all.0 in
      let n = length members in
      let few_members : n ≤ most_items = omega (
        arith,
        few,
        length-map {B = Member} all.0 (λ s. s.member),
        length-map {B = PhaseRoute × Run} all.0 (λ s. (s.route, s.member.run)),
        length_permutation (runs_of_way way routes) (map (λ s. (s.route, s.member.run)) all.0) all.1.once,
      ) in
      let classes = some_classes (IsLink nudge members) (linked_decided nudge members) n (λ i j l. (let f = l.forward in let w = l.within in omega (arith, f, w), l.within)) in
      let made = partners (λ places b. IsBundleOf nudge (members_at members places) b) classes.0
      (recursion_from_All (λ places. (b : RunBundle) × IsBundleOf nudge (members_at members places) b) classes.0
      (λ k d h. whole_bundle nudge (members_at members (get_or classes.0 k d))
      (let most = few_places (get_or classes.0 k d) n (classes.1.rising k d h) (classes.1.within k d h) in omega (arith, most, few_members, length-map (get_or classes.0 k d) (member_at members))))) in (
        made.0,
        record {
          all = all.0;
          in_order = all.1;
          bundles = record {
            classes = classes.0;
            are_classes = classes.1;
            count = sym (zip_count (λ places b. IsBundleOf nudge (members_at members places) b) classes.0 made.0 made.1);
            each = λ k d h. zip_at (λ places b. IsBundleOf nudge (members_at members places) b) classes.0 made.0 made.1 k [] d
                (let c = zip_count (λ places b. IsBundleOf nudge (members_at members places) b) classes.0 made.0 made.1 in omega (arith, h, c));
          };
        },
      )

-- ---- solutions

some_solutions : (found : List RunBundle) → All (λ (b : RunBundle). IsBundle b.bundle) found → (solutions : List Solution) × AreSolutionsOf found solutions
some_solutions found good =
    let R = λ (b : RunBundle) (s : Solution). IsSolutionOf b.bundle s in
    let made = partners R found (recursion_from_All (λ (b : RunBundle). (s : Solution) × IsSolutionOf b.bundle s) found (λ k d h. some_solution (get_or found k d).bundle (good k d h))) in
    (made.0, are_each R found made.0 made.1)

-- ---- the runs at their places

module _ (routes : List PhaseRoute) (way : Way) (found : List RunBundle) (solutions : List Solution) (in_them : AreBundlesIn routes way found) (solved : AreSolutionsOf found solutions) where
  some_place : (r : Run) → IsRunIn routes way r → (z : ℤ) × IsPutAt found solutions r z
  some_place r is =
      let has = in_them.whole r is in
      let b = has.0 in
      let place = has.1.0 in
      let item = has.2.0 in
      let of_bundle : slice_get found place ≡ Some b = slice_get-get_or found place b has.1.1 ∙ ap Some has.1.2 in
      let s = some_read solutions place (let l = has.1.1 in let c = solved.count in omega (arith, l, c)) in
      let is_solution = solved.each place b s.0 of_bundle s.1 in
      let items = All-contains (λ (x : RunBundle). length x.runs.items ≡ length x.bundle.items.items) found b in_them.items has.1 in
      let den = get_or s.0.den.items item 0 in
      let some : 0 < den = is_solution.least.meets.positive item 0 (let l = has.2.1 in let c = is_solution.least.meets.dens in omega (arith, l, c, items)) in
      let num = int_at s.0.pos.items item in (
        rounded_down num den,
        record {
          place = place;
          item = item;
          bundle = b;
          solution = s.0;
          of_bundle = of_bundle;
          of_solution = s.1;
          here = slice_get-get_or b.runs.items item r has.2.1 ∙ ap Some has.2.2;
          down = rounded_down_is num den some;
        },
      )

  -- the run where its solution puts it, and one of the other way where it is
  record IsPutRun (r s : Run) : Type 0 where
    is : s ≡ record r { at = s.at }
    own : r.way ≡ way → IsPutAt found solutions r s.at
    other : r.way ≢ way → s.at ≡ r.at

  put_run : (r : Run) → Dec (r.way ≡ way) → (r.way ≡ way → IsRunIn routes way r) → (s : Run) × IsPutRun r s
  put_run r (yes own) inside =
      let place = some_place r (inside own) in
      (record r { at = place.0 }, record { is = refl; own = λ e. place.1; other = λ not. absurd (not own) })
  put_run r (no not) inside = (r, record { is = refl; own = λ e. absurd (not e); other = λ n. refl })

  run_in : (i k : ℕ) (route : PhaseRoute) → slice_get routes i ≡ Some route → (d : Run) → k < length route.runs.items → (get_or route.runs.items k d).way ≡ way → IsRunIn routes way (get_or route.runs.items k d)
  run_in i k route e d h own = record { place = i; index = k; route = route; of_route = e; here = slice_get-get_or route.runs.items k d h; is_way = own }

  put_route : (i : ℕ) (route : PhaseRoute) → slice_get routes i ≡ Some route → (put : PhaseRoute) × IsPut way found solutions route put
  put_route i route e =
      let runs = route.runs.items in
      let made = partners IsPutRun runs (recursion_from_All (λ r. (s : Run) × IsPutRun r s) runs (λ k d h. put_run (get_or runs k d) (same_way (get_or runs k d).way way) (run_in i k route e d h))) in
      let count = zip_count IsPutRun runs made.0 made.1 in
      let at : (k : ℕ) → k < length runs → IsPutRun (run_at runs k) (run_at made.0 k) = λ k h. zip_at IsPutRun runs made.0 made.1 k no_run no_run h in (
        record { edge = route.edge; runs = vec_like route.runs made.0 (sym count); anchors = route.anchors; weight = route.weight },
        record {
          same = record { edge = refl; weight = refl; anchors = refl };
          count = sym count;
          runs = λ k h. (at k h).is;
          own = λ k h w. (at k h).own w;
          others = λ k h n. (at k h).other n;
        },
      )

  follow_route : (route : PhaseRoute) → (after : PhaseRoute) × HasFollowed way route after
  follow_route route =
      let runs = route.runs.items in
      let new = moved_run way runs (coordinates runs) in
      let count : length (map new (range_with_len 0 (length runs))) ≡ length runs = length-map-range_with_len new 0 (length runs) in (
        record { edge = route.edge; runs = vec_like route.runs (map new (range_with_len 0 (length runs))) count; anchors = route.anchors; weight = route.weight },
        record {
          same = record { edge = refl; weight = refl; anchors = refl };
          runs = record { count = count; runs = λ k h. get_or-map-range_with_len new 0 (length runs) k k no_run h (omega arith) };
        },
      )

  pub put_all : (put : List PhaseRoute) × AreEach (IsPut way found solutions) routes put
  put_all =
      let made = partners (IsPut way found solutions) routes (recursion_from_All (λ r. (p : PhaseRoute) × IsPut way found solutions r p) routes (λ k d h. put_route k (get_or routes k d) (slice_get-get_or routes k d h))) in
      (made.0, are_each (IsPut way found solutions) routes made.0 made.1)

  pub follow_all : (put : List PhaseRoute) → (after : List PhaseRoute) × AreEach (HasFollowed way) put after
  follow_all put =
      let made = partners (HasFollowed way) put (recursion_from_All (λ r. (p : PhaseRoute) × HasFollowed way r p) put (λ k d h. follow_route (get_or put k d))) in
      (made.0, are_each (HasFollowed way) put made.0 made.1)

-- routes whose runs may stay have a phase
pub some_phase : (solids : List Solid) (routes : List PhaseRoute) (way : Way) (nudge : ℤ) → All IsPhaseRoute routes → All (MayMove solids way) routes → length (runs_of_way way routes) ≤ most_items → IsNudge nudge →
    (after : List PhaseRoute) × IsPhase solids routes way nudge after
some_phase solids routes way nudge good movable few is_nudge =
    let bundles = some_bundles solids routes way nudge good movable few is_nudge in
    let found = bundles.0 in
    let accepted = solvable solids routes way nudge found bundles.1 good movable few is_nudge in
    let in_them = bundles_in solids routes way nudge found bundles.1 accepted in
    let solved = some_solutions found accepted in
    let put = put_all routes way found solved.0 in_them solved.1 in
    let after = follow_all routes way found solved.0 in_them solved.1 put.0 in
    (after.0, is_phase solids routes put.0 after.0 way nudge found solved.0 bundles.1 solved.1 put.1 after.1)
