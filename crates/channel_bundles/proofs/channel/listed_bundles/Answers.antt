-- The bundles of the runs in their order are those of the phase, or those with few of its rules.
use Rattle.std.proofs.Common.{◌≡◌, ◌≤◌, ℤ, List, length, map, sym, ap, subst, ◌∙◌, arith, Result, Ok, Err, Vec, w64, FitsSigned, rules}
use Rattle.std.specs.Prelude.{All, IfOk}
use Rattle.std.specs.declared.alloc.AllocError.{AllocError}
use Rattle.std.specs.List.Sorted.{IsPermutation, IsSortedByKey}
use Rattle.std.proofs.lemmas.Int.{to_z-of_z}
use Rattle.std.proofs.lemmas.List.{length-map}
use Rattle.std.proofs.lemmas.List.Elements.{All-map, All-weaker}
use Rattle.std.proofs.lemmas.List.Sorted.{length_permutation}
use Rattle.plane_geom.specs.declared.point.Way.{Way}
use Rattle.plane_geom.specs.declared.rect.Solid.{Solid}
use Rattle.segment_order.specs.declared.run.Run.{Run}
use Rattle.segment_order.specs.Order.{compare_keys, key_of}
use Rattle.separation_model.specs.Arena.{Arena}
use Rattle.channel_bundles.specs.declared.route.PhaseRoute.{PhaseRoute}
use Rattle.channel_bundles.specs.declared.member.Member.{Member}
use Rattle.channel_bundles.specs.declared.channel.Placed.{Placed}
use Rattle.channel_bundles.specs.declared.channel.RunBundle.{RunBundle}
use Rattle.channel_bundles.specs.Route.{runs_of_way}
use Rattle.separation_model.specs.Bundle.{most_items}
use Rattle.channel_bundles.specs.Few.{AreFewBundles}
use Rattle.channel_bundles.specs.Limits.{MayMove}
use Rattle.channel_bundles.specs.Links.{IsMember, IsNudge}
use Rattle.channel_bundles.specs.Listed.{AreListedOf}
use Rattle.channel_bundles.specs.declared.channel.Listing.{Listing}
use Rattle.channel_bundles.specs.Bundles.{AreBundles, AreBundlesOf, AreInOrder, Standing, members_of}
use Rattle.channel_bundles.specs.Placed.{AreRising, IsPlaced, standing_of, standings_of}
use Rattle.channel_bundles.proofs.Fewer.{all_listed, few_bundles}
use Rattle.channel_bundles.proofs.Placing.{are_rising, map_map}
use Rattle.channel_bundles.proofs.channel.listed_bundles.Goals as goal

-- the members of the list are those of its standings
own : (placed : List Placed) (ms : List Member) → ms ≡ map (λ (p : Placed). p.member) placed → ms ≡ members_of (standings_of placed)
own placed ms e = e ∙ sym (map_map (λ (s : Standing). s.member) standing_of placed)

count : (routes : List PhaseRoute) (way : Way) (placed : List Placed) → IsPermutation (runs_of_way way routes) (map (λ (s : Standing). (s.route, s.member.run)) (standings_of placed)) → length (map (λ (p : Placed). p.member) placed) ≡ length (runs_of_way way routes)
count routes way placed once =
    omega (arith, length_permutation _ _ once, length-map {B = PhaseRoute × Run} (standings_of placed) (λ s. (s.route, s.member.run)), length-map {B = Standing} placed standing_of, length-map {B = Member} placed (λ p. p.member))

own_members : (solids : List Solid) (routes : List PhaseRoute) (placed : List Placed) (ms : List Member) → All (IsPlaced solids routes) placed → ms ≡ map (λ (p : Placed). p.member) placed → All IsMember ms
own_members solids routes placed ms each e =
    subst (All IsMember) (sym e) (All-map IsMember (λ (p : Placed). p.member) placed (All-weaker (IsPlaced solids routes) (λ p. IsMember p.member) (λ p is. is.member) placed each))

own_rising : (placed : List Placed) (ms : List Member) → ms ≡ map (λ (p : Placed). p.member) placed → IsSortedByKey (λ s. key_of s.route.runs.items s.member.run) compare_keys (standings_of placed) → AreRising ms
own_rising placed ms e sorted = subst AreRising (sym (own placed ms e)) (are_rising (standings_of placed) sorted)

-- the results in both cases
all_found : (solids : List Solid) (routes : List PhaseRoute) (way : Way) (nudge : ℤ) (placed : List Placed) (ms : List Member) → AreInOrder solids routes way (standings_of placed) → ms ≡ members_of (standings_of placed) →
    (listing : Listing) → listing ≡ Listing.All → (r : Result (Vec RunBundle Arena) AllocError) → IfOk r (λ b. AreListedOf listing nudge ms b.items) → IfOk r (λ b. AreBundles solids routes way nudge b.items)
all_found solids routes way nudge placed ms order e listing is_all (Ok b) is =
    record { all = standings_of placed; in_order = order; bundles = subst (λ xs. AreBundlesOf nudge xs b.items) e (all_listed nudge ms b.items (subst (λ l. AreListedOf l nudge ms b.items) is_all is)) }
all_found solids routes way nudge placed ms order e listing is_all (Err x) is = tt

few_found : (solids : List Solid) (routes : List PhaseRoute) (way : Way) (nudge : ℤ) (placed : List Placed) (ms : List Member) → AreInOrder solids routes way (standings_of placed) → ms ≡ members_of (standings_of placed) →
    IsNudge nudge → All IsMember ms → AreRising ms → length ms ≤ most_items →
    (listing : Listing) → listing ≡ Listing.Few → (r : Result (Vec RunBundle Arena) AllocError) → IfOk r (λ b. AreListedOf listing nudge ms b.items) → IfOk r (λ b. AreFewBundles solids routes way nudge b.items)
few_found solids routes way nudge placed ms order e is_nudge all rising few listing is_few (Ok b) is =
    few_bundles nudge ms is_nudge all rising few b.items (subst (λ l. AreListedOf l nudge ms b.items) is_few is) solids routes way (standings_of placed) order e
few_found solids routes way nudge placed ms order e is_nudge all rising few listing is_few (Err x) is = tt

pub runs_in_order-requires-clause-movable : goal.runs_in_order-requires-clause-movable
runs_in_order-requires-clause-movable c = subst (λ solids. All (MayMove solids c.args.way) c.args.routes.now) (sym c.in_ok-walls.ensures.solids) c.requires.movable

pub bundles_of-requires-clause-members : goal.bundles_of-requires-clause-members
bundles_of-requires-clause-members c =
    own_members c.in_ok-walls.walls.solids.now c.args.routes.now c.in_ok-placed.placed.items _ c.in_ok-placed.ensures.each (c.deref-2.ensures.value ∙ c.in_ok-members.ensures ∙ ap (map (λ (p : Placed). p.member)) c.deref.ensures.value)

pub bundles_of-requires-clause-few : goal.bundles_of-requires-clause-few
bundles_of-requires-clause-few c =
    let e = c.deref-2.ensures.value ∙ c.in_ok-members.ensures ∙ ap (map (λ (p : Placed). p.member)) c.deref.ensures.value in
    omega (arith, ap length e, count c.args.routes.now c.args.way c.in_ok-placed.placed.items c.in_ok-placed.ensures.order.once, c.requires.few)

pub bundles_of-requires-clause-rising : goal.bundles_of-requires-clause-rising
bundles_of-requires-clause-rising c =
    own_rising c.in_ok-placed.placed.items _ (c.deref-2.ensures.value ∙ c.in_ok-members.ensures ∙ ap (map (λ (p : Placed). p.member)) c.deref.ensures.value) c.in_ok-placed.ensures.order.sorted

pub returns-clause-all : goal.returns-clause-all
returns-clause-all c =
    let fits : FitsSigned w64 c.args.nudge = search rules in
    let e = c.deref-2.ensures.value ∙ c.in_ok-members.ensures ∙ ap (map (λ (p : Placed). p.member)) c.deref.ensures.value in
    let is = simp to_z-of_z at c.bundles_of.ensures.bundles in
    let order = subst (λ solids. AreInOrder solids c.args.routes.now c.args.way (standings_of c.in_ok-placed.placed.items)) c.in_ok-walls.ensures.solids c.in_ok-placed.ensures.order in
    λ is_all. all_found c.args.solids.now c.args.routes.now c.args.way c.args.nudge c.in_ok-placed.placed.items _ order (own c.in_ok-placed.placed.items _ e) c.args.listing is_all c.bundles_of.result is

pub returns-clause-few : goal.returns-clause-few
returns-clause-few c =
    let fits : FitsSigned w64 c.args.nudge = search rules in
    let e = c.deref-2.ensures.value ∙ c.in_ok-members.ensures ∙ ap (map (λ (p : Placed). p.member)) c.deref.ensures.value in
    let is = simp to_z-of_z at c.bundles_of.ensures.bundles in
    let placed = c.in_ok-placed.placed.items in
    let solids = c.args.solids.now in
    let routes = c.args.routes.now in
    let order = subst (λ solids. AreInOrder solids c.args.routes.now c.args.way (standings_of c.in_ok-placed.placed.items)) c.in_ok-walls.ensures.solids c.in_ok-placed.ensures.order in
    λ is_few. few_found solids routes c.args.way c.args.nudge placed _ order (own placed _ e) c.requires.nudge (own_members c.in_ok-walls.walls.solids.now routes placed _ c.in_ok-placed.ensures.each e)
    (own_rising placed _ e c.in_ok-placed.ensures.order.sorted) (omega (arith, ap length e, count routes c.args.way placed c.in_ok-placed.ensures.order.once, c.requires.few)) c.args.listing is_few c.bundles_of.result is
