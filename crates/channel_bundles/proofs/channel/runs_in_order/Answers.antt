-- The runs are sorted by their keys.
use Rattle.std.proofs.Common.{◌≡◌, ap, ◌∙◌, subst, rules, of_calls, Bool, List}
use Rattle.std.specs.Prelude.{All}
use Rattle.std.specs.Ordering.{is_lt}
use Rattle.std.specs.List.Sorted.{IsPermutation}
use Rattle.std.proofs.lemmas.List.Elements.{All-map, All-weaker}
use Rattle.std.proofs.lemmas.List.Sorted.{All-permutation, IsPermutation-map, ranks_by}
use Rattle.std.proofs.lemmas.Fn.{always_returns_same}
use Rattle.segment_order.specs.declared.run.Run.{Run}
use Rattle.segment_order.specs.Order.{Key, compare_keys, key_of}
use Rattle.segment_order.proofs.OneOrder.{keys_total}
use Rattle.plane_geom.specs.declared.rect.Solid.{Solid}
use Rattle.channel_bundles.specs.declared.route.PhaseRoute.{PhaseRoute}
use Rattle.channel_bundles.specs.declared.channel.Placed.{Placed}
use Rattle.channel_bundles.specs.Bundles.{IsStanding, Standing}
use Rattle.channel_bundles.specs.Placed.{IsPlaced, key_of_placed, pairs_of, standing_of, standings_of}
use Rattle.channel_bundles.specs.Leaders.{runs_at}
use Rattle.channel_bundles.proofs.Leading.{key_alike, sorted_alike}
use Rattle.channel_bundles.proofs.Placing.{sorted_map}
use Rattle.channel_bundles.proofs.channel.runs_in_order.Goals as goal

abbrev key : Standing → Key
key s = key_of s.route.runs.items s.member.run

each : (solids : List Solid) (routes : List PhaseRoute) (placed : List Placed) → All (IsPlaced solids routes) placed → All (IsStanding solids) (standings_of placed)
each solids routes placed all = All-map (IsStanding solids) standing_of placed (All-weaker (IsPlaced solids routes) (λ p. IsStanding solids (standing_of p)) (λ p is. is.standing) placed all)

-- the key along the leader's route is that along the run's own
own_key : (solids : List Solid) (routes : List PhaseRoute) (p : Placed) → IsPlaced solids routes p → key_of_placed routes p ≡ key (standing_of p)
own_key solids routes p is = key_alike (runs_at routes p.leader) p.route.now.runs.items p.member.run is.leader

own_test : (solids : List Solid) (routes : List PhaseRoute) (p q : Placed) → IsPlaced solids routes p → IsPlaced solids routes q →
    is_lt (compare_keys (key_of_placed routes p) (key_of_placed routes q)) ≡ is_lt (compare_keys (key (standing_of p)) (key (standing_of q)))
own_test solids routes p q is other =
    ap (λ k. is_lt (compare_keys k (key_of_placed routes q))) (own_key solids routes p is) ∙ ap (λ k. is_lt (compare_keys (key (standing_of p)) k)) (own_key solids routes q other)

once : (placed sorted : List Placed) (runs : List (PhaseRoute × Run)) → pairs_of placed ≡ runs → IsPermutation placed sorted → IsPermutation runs (pairs_of sorted)
once placed sorted runs e moves =
    subst (λ xs. IsPermutation xs (pairs_of sorted)) e
    (IsPermutation-map (λ (s : Standing). (s.route, s.member.run)) (standings_of placed) (standings_of sorted) (IsPermutation-map standing_of placed sorted moves))

pub returns-clause-each : goal.returns-clause-each
returns-clause-each c = All-permutation (IsPlaced c.args.walls.now.solids.now c.args.routes.now) c.in_ok-placed.placed.items c.sort_unstable_by.new.self.items c.sort_unstable_by.ensures.permutation c.in_ok-placed.ensures.each

pub returns-clause-order : goal.returns-clause-order
returns-clause-order c =
    let solids = c.args.walls.now.solids.now in
    let routes = c.args.routes.now in
    let sorted = c.sort_unstable_by.new.self.items in
    let all = All-permutation (IsPlaced solids routes) c.in_ok-placed.placed.items sorted c.sort_unstable_by.ensures.permutation c.in_ok-placed.ensures.each in
    let by : Placed → Placed → Bool = λ p q. is_lt (compare_keys (key_of_placed routes p) (key_of_placed routes q)) in
    record {
      each = each solids routes sorted all;
      once = once c.in_ok-placed.placed.items sorted _ c.in_ok-placed.ensures.runs c.sort_unstable_by.ensures.permutation;
      sorted = sorted_map standing_of (λ s t. is_lt (compare_keys (key s) (key t))) sorted
          (sorted_alike (IsPlaced solids routes) by (λ p q. is_lt (compare_keys (key (standing_of p)) (key (standing_of q)))) sorted all (own_test solids routes)
          (c.sort_unstable_by.ensures.sorted by (ranks_by keys_total (key_of_placed routes)) (always_returns_same _ (λ a r. is_lt r ≡ by a.0.now a.1.0.now) _
          (λ a r f called. let e : r ≡ compare_keys (key_of_placed routes a.0.now) (key_of_placed routes a.1.0.now) = search (rules, of_calls) in (ap is_lt e, search (rules, of_calls))))));
    }
