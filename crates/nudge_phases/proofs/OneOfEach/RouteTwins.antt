-- Routes that are alike have the same bundles.
use Rattle.std.proofs.Common.{◌≡◌, ◌≢◌, ℕ, zero, suc, ◌+◌, ◌-◌, ◌<◌, ◌==◌, ℤ, List, [], ◌∷◌, ◌++◌, map, length, get_or, if◌then◌else◌, refl, sym, ap, subst, ◌∙◌, arith}
use Rattle.std.specs.Prelude.{Any, All, AllPairs, Contains}
use Rattle.std.specs.Ordering.{is_lt}
use Rattle.std.specs.List.Sorted.{IsPermutation}
use Rattle.std.proofs.lemmas.List.{get_or-map, length-map}
use Rattle.std.proofs.lemmas.List.Elements.{All-map}
use Rattle.std.proofs.lemmas.List.Sorted.{IsPermutation-map}
use Rattle.std.proofs.lemmas.Option.{slice_get-get_or}
use Rattle.plane_geom.specs.declared.point.Point.{Point}
use Rattle.plane_geom.specs.declared.point.Way.{Way}
use Rattle.plane_geom.specs.declared.rect.Solid.{Solid}
use Rattle.plane_geom.specs.Point.{opposite}
use Rattle.plane_geom.specs.Along.{across}
use Rattle.plane_geom.specs.Floor.{Holds}
use Rattle.segment_order.specs.declared.run.Run.{Run}
use Rattle.segment_order.specs.Run.{run_at, line_of_run, start_of_run, end_of_run}
use Rattle.segment_order.specs.Order.{Key, compare_keys, key_of}
use Rattle.channel_bundles.specs.declared.route.PhaseRoute.{PhaseRoute}
use Rattle.channel_bundles.specs.declared.member.Member.{Member}
use Rattle.channel_bundles.specs.declared.channel.RunBundle.{RunBundle}
use Rattle.channel_bundles.specs.Route.{HasToLeave, HasToReach, IsFixed, of_way, runs_of_way}
use Rattle.channel_bundles.specs.Limits.{HasLimits, IsReached, MayStandAt, Sweeps}
use Rattle.channel_bundles.specs.Bundles.{AreBundles, AreBundlesOf, AreInOrder, IsStanding, Standing, members_of}
use Rattle.nudge_phases.proofs.RoutesAlike.{AreRoutesAlike, IsRouteAlike}
use Rattle.nudge_phases.proofs.MovedRuns.Bundled.{standing_run}
use Rattle.nudge_phases.proofs.EachPhase.FromPhase.{same_number, other_number}

pub turned_alike : (a b : PhaseRoute) → IsRouteAlike a b → IsRouteAlike b a
turned_alike a b same = record {
  edge = sym same.edge;
  weight = sym same.weight;
  runs = sym same.runs;
  source = sym same.source;
  target = sym same.target;
  via = sym same.via;
}

-- what is known of a route holds of one that is alike
module _ (a b : PhaseRoute) (same : IsRouteAlike a b) where
  fixed_alike : (k : ℕ) → IsFixed a k → IsFixed b k
  fixed_alike k (IsFixed.is_first e) = IsFixed.is_first e
  fixed_alike k (IsFixed.is_last e) = IsFixed.is_last (e ∙ ap length same.runs)
  fixed_alike k (IsFixed.has_checkpoint some) =
      IsFixed.has_checkpoint (subst (λ rs. Any (Holds (line_of_run (run_at rs k))) b.anchors.via.items) same.runs (subst (Any (Holds (line_of_run (run_at a.runs.items k)))) same.via some))
  fixed_alike k (IsFixed.doubles_back h e) = IsFixed.doubles_back (omega (arith, h, ap length same.runs)) (subst (λ rs. (run_at rs (k + 1)).way ≡ (run_at rs k).way) same.runs e)
  fixed_alike k (IsFixed.was_doubled_back h e) = IsFixed.was_doubled_back h (subst (λ rs. (run_at rs (k - 1)).way ≡ (run_at rs k).way) same.runs e)

  reach_alike : (k : ℕ) (p : Point) → HasToReach a k p → HasToReach b k p
  reach_alike k p (HasToReach.source_port e f) = HasToReach.source_port e (f ∙ same.source)
  reach_alike k p (HasToReach.first_tip h e f) =
      HasToReach.first_tip h (subst (λ rs. (run_at rs (k - 1)).way ≡ (run_at rs k).way) same.runs e) (f ∙ ap (λ rs. start_of_run (run_at rs k)) same.runs)
  reach_alike k p (HasToReach.checkpoint_ahead has holds) =
      HasToReach.checkpoint_ahead (subst (λ ps. Contains ps p) same.via has) (subst (λ rs. Holds (line_of_run (run_at rs k)) p) same.runs holds)

  leave_alike : (k : ℕ) (p : Point) → HasToLeave a k p → HasToLeave b k p
  leave_alike k p (HasToLeave.target_port e f) = HasToLeave.target_port (e ∙ ap length same.runs) (f ∙ same.target)
  leave_alike k p (HasToLeave.last_tip h e f) =
      HasToLeave.last_tip (omega (arith, h, ap length same.runs)) (subst (λ rs. (run_at rs (k + 1)).way ≡ (run_at rs k).way) same.runs e) (f ∙ ap (λ rs. end_of_run (run_at rs k)) same.runs)
  leave_alike k p (HasToLeave.checkpoint_behind has holds) =
      HasToLeave.checkpoint_behind (subst (λ ps. Contains ps p) same.via has) (subst (λ rs. Holds (line_of_run (run_at rs k)) p) same.runs holds)

module _ (solids : List Solid) (a b : PhaseRoute) (same : IsRouteAlike a b) where
  stands_alike : (k : ℕ) (z : ℤ) → MayStandAt solids a k z → MayStandAt solids b k z
  stands_alike k z may = record {
    within = may.within;
    free = subst (λ rs. All (λ (s : Solid). let r = run_at rs k in Sweeps r.way s.rect r.at z r.lo r.hi → ⊥) solids) same.runs may.free;
    before = λ p some has.
        subst (λ rs. IsReached (run_at rs (k - 1)).heading (across (run_at rs k).way p) z) same.runs (may.before p some (reach_alike b a (turned_alike a b same) (k - 1) p has));
    after = λ p more has.
        subst (λ rs. IsReached (opposite (run_at rs (k + 1)).heading) (across (run_at rs k).way p) z) same.runs
        (may.after p (omega (arith, more, ap length same.runs)) (leave_alike b a (turned_alike a b same) (k + 1) p has));
  }

-- so are its limits, and what is known of its runs
module _ (solids : List Solid) (a b : PhaseRoute) (same : IsRouteAlike a b) where
  limits_alike : (k : ℕ) (low high : ℤ) → HasLimits solids a k low high → HasLimits solids b k low high
  limits_alike k low high limits = record {
    fixed = λ fixed. subst (λ rs. (low ≡ (run_at rs k).at) × (high ≡ (run_at rs k).at)) same.runs (limits.fixed (fixed_alike b a (turned_alike a b same) k fixed));
    movable = λ movable z.
        let is = limits.movable (λ fixed. movable (fixed_alike a b same k fixed)) z in
        (λ may. is.0 (stands_alike solids b a (turned_alike a b same) k z may), λ within. stands_alike solids a b same k z (is.1 within));
  }

  standing_alike : (m : Member) → IsStanding solids (record { route = a; member = m }) → IsStanding solids (record { route = b; member = m })
  standing_alike m is = record {
    fixed = (λ t. fixed_alike a b same (m.run.place - 1) (is.fixed.0 t), λ fixed. is.fixed.1 (fixed_alike b a (turned_alike a b same) (m.run.place - 1) fixed));
    limits = limits_alike (m.run.place - 1) m.low m.high is.limits;
    weight = is.weight ∙ same.weight;
  }

-- of routes of different edges and their twins in another list, the twin of a route
twin : List PhaseRoute → List PhaseRoute → PhaseRoute → PhaseRoute
twin [] others r = r
twin (b ∷ bs) [] r = r
twin (b ∷ bs) (o ∷ os) r = if b.edge == r.edge then o else twin bs os r

twin_is : (routes others : List PhaseRoute) → length routes ≡ length others → AllPairs (λ (r s : PhaseRoute). r.edge ≢ s.edge) routes → (k : ℕ) (d e : PhaseRoute) → k < length routes →
    twin routes others (get_or routes k d) ≡ get_or others k e
unfolding twin
twin_is [] others count edges k d e h = absurd (omega arith)
twin_is (b ∷ bs) [] count edges k d e h = absurd (omega arith)
twin_is (b ∷ bs) (o ∷ os) count edges zero d e h = ap (λ t. if t then o else twin bs os b) (same_number b.edge b.edge refl)
twin_is (b ∷ bs) (o ∷ os) count edges (suc k) d e h =
    ap (λ t. if t then o else twin bs os (get_or bs k d)) (other_number b.edge (get_or bs k d).edge (edges 0 (suc k) d (omega arith) h))
    ∙ twin_is bs os (omega arith) (λ i j c f g. edges (suc i) (suc j) c (omega arith) (omega arith)) k d e (omega arith)

abbrev paired : (PhaseRoute → PhaseRoute) → PhaseRoute × Run → PhaseRoute × Run
paired to p = (to p.0, p.1)

abbrev pair_of : Standing → PhaseRoute × Run
pair_of s = (s.route, s.member.run)

abbrev moved_to : (PhaseRoute → PhaseRoute) → Standing → Standing
moved_to to s = record { route = to s.route; member = s.member }

own_paired : (to : PhaseRoute → PhaseRoute) (r o : PhaseRoute) (runs : List Run) (rest : List (PhaseRoute × Run)) → to r ≡ o →
    map (λ (x : Run). (o, x)) runs ++ map (paired to) rest ≡ map (paired to) (map (λ (x : Run). (r, x)) runs ++ rest)
own_paired to r o [] rest e = refl
own_paired to r o (x ∷ xs) rest e =
    let more = own_paired to r o xs rest e in
    ap (λ (q : PhaseRoute). (q, x) ∷ (map (λ (y : Run). (o, y)) xs ++ map (paired to) rest)) (sym e) ∙ ap (λ ps. (to r, x) ∷ ps) more

runs_paired : (way : Way) (to : PhaseRoute → PhaseRoute) (rs os : List PhaseRoute) → length rs ≡ length os → ((k : ℕ) (d e : PhaseRoute) → k < length rs → to (get_or rs k d) ≡ get_or os k e) →
    ((k : ℕ) (d e : PhaseRoute) → k < length rs → (get_or rs k d).runs.items ≡ (get_or os k e).runs.items) → runs_of_way way os ≡ map (paired to) (runs_of_way way rs)
runs_paired way to [] [] count is runs = refl
runs_paired way to [] (o ∷ os) count is runs = absurd (omega arith)
runs_paired way to (r ∷ rs) [] count is runs = absurd (omega arith)
runs_paired way to (r ∷ rs) (o ∷ os) count is runs =
    let rest = runs_paired way to rs os (omega arith) (λ k d e h. is (suc k) d e (omega arith)) (λ k d e h. runs (suc k) d e (omega arith)) in
    let own : o.runs.items ≡ r.runs.items = sym (runs 0 r o (omega arith)) in
    ap (λ xs. map (λ (x : Run). (o, x)) (of_way way xs) ++ runs_of_way way os) own
    ∙ ap (λ ps. map (λ (x : Run). (o, x)) (of_way way r.runs.items) ++ ps) rest
    ∙ own_paired to r o (of_way way r.runs.items) (runs_of_way way rs) (is 0 r o (omega arith))

pairs_moved : (to : PhaseRoute → PhaseRoute) (all : List Standing) → map (paired to) (map pair_of all) ≡ map pair_of (map (moved_to to) all)
pairs_moved to [] = refl
pairs_moved to (s ∷ all) = ap (λ ps. (to s.route, s.member.run) ∷ ps) (pairs_moved to all)

members_moved : (to : PhaseRoute → PhaseRoute) (all : List Standing) → members_of all ≡ members_of (map (moved_to to) all)
members_moved to [] = refl
members_moved to (s ∷ all) = ap (λ ms. s.member ∷ ms) (members_moved to all)

module _ (solids : List Solid) (routes others : List PhaseRoute) (alike : AreRoutesAlike routes others) (edges : AllPairs (λ (r s : PhaseRoute). r.edge ≢ s.edge) routes) (way : Way) where
  abbrev to : PhaseRoute → PhaseRoute
  to = twin routes others

  at_twin : (k : ℕ) (d e : PhaseRoute) → k < length routes → IsRouteAlike (get_or routes k d) (get_or others k e)
  at_twin k d e h = alike.each k (get_or routes k d) (get_or others k e) (slice_get-get_or routes k d h) (slice_get-get_or others k e (omega (arith, alike.count)))

  route_alike : (r : PhaseRoute) → Contains routes r → IsRouteAlike r (to r)
  route_alike r has =
      let there : get_or others has.0 r ≡ to r = sym (twin_is routes others alike.count edges has.0 r r has.1) ∙ ap to has.2 in
      subst (IsRouteAlike r) there (subst (λ (s : PhaseRoute). IsRouteAlike s (get_or others has.0 r)) has.2 (at_twin has.0 r r has.1))

  order_alike : (all : List Standing) → AreInOrder solids routes way all → AreInOrder solids others way (map (moved_to to) all)
  order_alike all order =
      let own : (k : ℕ) (d : Standing) → k < length all → IsRouteAlike (get_or all k d).route (to (get_or all k d).route) =
      λ k d h. route_alike (get_or all k d).route (standing_run way routes all k d order.once h).route in
      let key : Standing → Key = λ s. key_of s.route.runs.items s.member.run in
      let count = length-map {B = Standing} all (moved_to to) in
      let key_at : (k : ℕ) (d : Standing) → k < length all → key (get_or (map (moved_to to) all) k d) ≡ key (get_or all k d) =
      λ k d h. ap key (get_or-map (moved_to to) all k d d h) ∙ ap (λ runs. key_of runs (get_or all k d).member.run) (sym (own k d h).runs) in
      record {
        each = All-map (IsStanding solids) (moved_to to) all
            (λ k d h. standing_alike solids (get_or all k d).route (to (get_or all k d).route) (own k d h) (get_or all k d).member (order.each k d h));
        once =
            subst (λ runs. IsPermutation runs (map pair_of (map (moved_to to) all)))
            (sym (runs_paired way to routes others alike.count (twin_is routes others alike.count edges) (λ k d e h. (at_twin k d e h).runs)))
            (subst (IsPermutation (map (paired to) (runs_of_way way routes))) (pairs_moved to all) (IsPermutation-map (paired to) (runs_of_way way routes) (map pair_of all) order.once));
        sorted = λ k d from within.
            ap (λ c. is_lt (compare_keys c (key (get_or (map (moved_to to) all) k d)))) (key_at (k + 1) d (omega (arith, within, count)))
            ∙ ap (λ c. is_lt (compare_keys (key (get_or all (k + 1) d)) c)) (key_at k d (omega (arith, within, count)))
            ∙ order.sorted k d (omega arith) (omega (arith, within, count));
      }

  pub bundles_alike : (nudge : ℤ) (found : List RunBundle) → AreBundles solids routes way nudge found → AreBundles solids others way nudge found
  bundles_alike nudge found are = record {
    all = map (moved_to to) are.all;
    in_order = order_alike are.all are.in_order;
    bundles = subst (λ ms. AreBundlesOf nudge ms found) (members_moved to are.all) are.bundles;
  }
