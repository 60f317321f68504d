-- A phase has one result.
use Rattle.std.proofs.Common.{◌≡◌, ◌≢◌, ℕ, ◌+◌, ◌-◌, ◌<◌, ℤ, pos, ◌*ℤ◌, ◌≤ℤ◌, Bool, true, false, Some, List, length, get_or, replicate, if◌then◌else◌, inl, inr, refl, sym, ap, subst, ◌∙◌, arith}
use Rattle.std.specs.Prelude.{slice_get, slice_index, All, AllPairs, EachIndex}
use Rattle.separation_model.specs.Sum.{product}
use Rattle.std.proofs.lemmas.List.{get_or_default, length-map, same_lists}
use Rattle.std.proofs.lemmas.List.Elements.{All-get_or}
use Rattle.std.proofs.lemmas.Option.{slice_get_within, slice_get-get_or, slice_get_cases, get_or_from_slice_get, same_Some}
use Rattle.plane_geom.specs.declared.point.Way.{Way}
use Rattle.plane_geom.specs.declared.rect.Solid.{Solid}
use Rattle.segment_order.specs.declared.run.Run.{Run}
use Rattle.segment_order.specs.Run.{no_run, run_at, start_of_run, end_of_run}
use Rattle.plane_geom.specs.Along.{along}
use Rattle.separation_model.specs.declared.bundle.Bundle.{Bundle}
use Rattle.separation_model.specs.declared.bundle.Rule.{Rule}
use Rattle.separation_model.specs.declared.bundle.Solution.{Solution}
use Rattle.separation_model.specs.Bundle.{IsBundle, IsWithinLimits, MeetsBundle, int_at, item_at, slack}
use Rattle.separation_model.specs.Gap.{IsWidestGap}
use Rattle.separation_model.specs.Least.{IsLeast, over_product, square, squared_displacement}
use Rattle.separation_model.specs.Rounded.{IsRoundedDown, rounded_down}
use Rattle.separation_model.proofs.Gaps.WidestExists.{one_widest}
use Rattle.separation_model.proofs.Optimum.Middle.{one_place}
use Rattle.separation_model.proofs.Rounding.{one_whole, rounded_down_is}
use Rattle.channel_bundles.specs.declared.route.PhaseRoute.{PhaseRoute}
use Rattle.channel_bundles.specs.declared.member.Member.{Member}
use Rattle.channel_bundles.specs.declared.channel.RunBundle.{RunBundle}
use Rattle.channel_bundles.specs.Route.{IsPhaseRoute, is_way}
use Rattle.channel_bundles.specs.Links.{item_of}
use Rattle.channel_bundles.specs.Bundles.{AreBundles}
use Rattle.nudge_phases.specs.Alike.{AreAlike, IsAlike}
use Rattle.nudge_phases.proofs.RoutesAlike.{AreRoutesAlike, IsRouteAlike}
use Rattle.nudge_phases.specs.Moved.{IsPutAt, corner, moved_run, runs_way, stretch}
use Rattle.nudge_phases.specs.Phase.{IsPhase, IsSolutionOf}
use Rattle.nudge_phases.proofs.OneOfEach.OneBundles.{one_list_of_bundles}
use Rattle.nudge_phases.proofs.EachPhase.FromPhase.{same_puts}
use Rattle.nudge_phases.proofs.EachPhase.Solvable.{own_way}
use Rattle.nudge_phases.proofs.OneOfEach.RouteTwins.{bundles_alike, turned_alike}

-- bundles with the same items and rules ask the same of positions
module _ (a b : Bundle) (items : a.items.items ≡ b.items.items) (rules : a.rules.items ≡ b.rules.items) where
  meets_alike : (gap : ℤ) (den : List ℕ) (nums : List ℤ) → MeetsBundle a gap den nums → MeetsBundle b gap den nums
  meets_alike gap den nums meets = record {
    dens = meets.dens ∙ ap length items;
    places = meets.places ∙ ap length items;
    positive = meets.positive;
    limits = subst (λ xs. EachIndex xs (λ i. IsWithinLimits (item_at xs i) (slice_index den i) (int_at nums i))) items meets.limits;
    rules = subst (All (λ (rule : Rule). pos 0 ≤ℤ slack gap den nums rule)) rules meets.rules;
  }

module _ (a b : Bundle) (items : a.items.items ≡ b.items.items) (rules : a.rules.items ≡ b.rules.items) (wanted : a.wanted ≡ b.wanted) where
  even_meets : (gap : ℤ) (q : ℕ) (nums : List ℤ) → MeetsBundle b gap (replicate (length b.items.items) q) nums → MeetsBundle a gap (replicate (length a.items.items) q) nums
  even_meets gap q nums meets =
      subst (λ n. MeetsBundle a gap (replicate n q) nums) (sym (ap length items)) (meets_alike b a (sym items) (sym rules) gap (replicate (length b.items.items) q) nums meets)

  widest_alike : (gap : ℤ) → IsWidestGap a gap → IsWidestGap b gap
  widest_alike gap is = record {
    low = is.low;
    high = subst (λ z. gap ≤ℤ z) wanted is.high;
    positions = record {
      places = is.positions.places;
      meets = subst (λ n. MeetsBundle b gap (replicate n 1) is.positions.places) (ap length items) (meets_alike a b items rules gap (replicate (length a.items.items) 1) is.positions.places is.positions.meets);
    };
    widest = λ wider den nums above within meets.
        is.widest wider den nums above (subst (λ z. wider ≤ℤ z) (sym wanted) within) (meets_alike b a (sym items) (sym rules) wider den nums meets);
  }

  least_alike : (gap : ℤ) (den : List ℕ) (nums : List ℤ) → IsLeast a gap den nums → IsLeast b gap den nums
  least_alike gap den nums is = record {
    meets = meets_alike a b items rules gap den nums is.meets;
    least = λ q other some meets.
        subst (λ xs. (square (pos q) *ℤ squared_displacement xs (product den) (over_product den nums)) ≤ℤ (square (pos (product den)) *ℤ squared_displacement xs q (int_at other))) items
        (is.least q other some (even_meets gap q other meets));
  }

-- a phase puts each run at one coordinate
module _ (solids : List Solid) (routes : List PhaseRoute) (way : Way) (nudge : ℤ) (good : All IsPhaseRoute routes) (edges : AllPairs (λ (r s : PhaseRoute). r.edge ≢ s.edge) routes)
    (found others : List RunBundle) (one : AreBundles solids routes way nudge found) (two : AreBundles solids routes way nudge others) (solvable : All (λ (b : RunBundle). IsBundle b.bundle) found)
    (xs ys : List Solution) (solved : length xs ≡ length found)
    (each_x : (k : ℕ) (b : RunBundle) (s : Solution) → slice_get found k ≡ Some b → slice_get xs k ≡ Some s → IsSolutionOf b.bundle s)
    (each_y : (k : ℕ) (b : RunBundle) (s : Solution) → slice_get others k ≡ Some b → slice_get ys k ≡ Some s → IsSolutionOf b.bundle s) where
  same_list : AreAlike found others
  same_list = one_list_of_bundles solids routes way nudge good edges found others one two solvable

  as_many_runs : (k : ℕ) (d : RunBundle) → k < length found → length (get_or found k d).runs.items ≡ length (get_or found k d).bundle.items.items
  as_many_runs k d h =
      let of = one.bundles.each k d h in
      ap length of.runs ∙ length-map {B = Run} _ (λ (m : Member). m.run) ∙ sym (length-map _ item_of) ∙ sym (ap length of.items)

  pub one_put : (r : Run) (y z : ℤ) → IsPutAt found xs r y → IsPutAt others ys r z → y ≡ z
  one_put r y z p q =
      let k = q.place in
      let i = q.item in
      let within : k < length found = omega (arith, slice_get_within others k q.bundle q.of_bundle, same_list.count) in
      let b = get_or found k q.bundle in
      let at : slice_get found k ≡ Some b = slice_get-get_or found k q.bundle within in
      let like : IsAlike b q.bundle = subst (IsAlike b) (get_or_from_slice_get others k q.bundle q.bundle q.of_bundle) (same_list.each k q.bundle within) in
      let s = get_or xs k q.solution in
      let at_s : slice_get xs k ≡ Some s = slice_get-get_or xs k q.solution (omega (arith, within, solved)) in
      let of_s = each_x k b s at at_s in
      let of_q = each_y k q.bundle q.solution q.of_bundle q.of_solution in
      let here : slice_get b.runs.items i ≡ Some r = ap (λ rs. slice_get rs i) like.runs ∙ q.here in
      let in_items : i < length b.bundle.items.items = omega (arith, slice_get_within b.runs.items i r here, as_many_runs k q.bundle within) in
      let some : 0 < slice_index s.den.items i = All-get_or (λ d. 0 < d) s.den.items i 0 (omega (arith, in_items, of_s.least.meets.dens)) of_s.least.meets.positive in
      let more : 0 < slice_index q.solution.den.items i = All-get_or (λ d. 0 < d) q.solution.den.items i 0 (omega (arith, in_items, of_q.least.meets.dens, ap length like.items)) of_q.least.meets.positive in
      let num = int_at s.pos.items i in
      let den = slice_index s.den.items i in
      let put : IsPutAt found xs r (rounded_down num den) = record {
        place = k;
        item = i;
        bundle = b;
        solution = s;
        of_bundle = at;
        of_solution = at_s;
        here = here;
        down = rounded_down_is num den some;
      } in
      let spots = same_puts solids routes way nudge found xs one each_x good edges r y (rounded_down num den) p put in
      let solution : p.solution ≡ s = same_Some p.solution s (sym p.of_solution ∙ ap (slice_get xs) spots.0 ∙ at_s) in
      let down : IsRoundedDown num den y = subst (λ j. IsRoundedDown (int_at s.pos.items j) (slice_index s.den.items j) y) spots.1
      (subst (λ (t : Solution). IsRoundedDown (int_at t.pos.items p.item) (slice_index t.den.items p.item) y) solution p.down) in
      let gap : q.solution.gap ≡ s.gap = one_widest b.bundle q.solution.gap s.gap (widest_alike q.bundle.bundle b.bundle (sym like.items) (sym like.rules) (sym like.wanted) q.solution.gap of_q.gap) of_s.gap in
      let least : IsLeast b.bundle s.gap q.solution.den.items q.solution.pos.items = subst (λ g. IsLeast b.bundle g q.solution.den.items q.solution.pos.items) gap
      (least_alike q.bundle.bundle b.bundle (sym like.items) (sym like.rules) (sym like.wanted) q.solution.gap q.solution.den.items q.solution.pos.items of_q.least) in
      let equal = one_place b.bundle s.gap s.den.items q.solution.den.items s.pos.items q.solution.pos.items (All-get_or (λ (d : RunBundle). IsBundle d.bundle) found k q.bundle within solvable) of_s.least least i
      (omega (arith, in_items, of_s.least.meets.places)) in
      one_whole num (int_at q.solution.pos.items i) y z den (slice_index q.solution.den.items i) some more equal down q.down

-- the runs follow
corner_by : (b : Bool) (y z old : ℤ) → (b ≡ true → y ≡ z) → (if b then y else old) ≡ (if b then z else old)
corner_by true y z old e = e refl
corner_by false y z old e = refl

moved_by : (b : Bool) (r : Run) (y z : ℤ) (s t : Run) → (b ≡ true → y ≡ z) → s ≡ t → (if b then record r { at = y } else s) ≡ (if b then record r { at = z } else t)
moved_by true r y z s t e f = ap (λ v. record r { at = v }) (e refl)
moved_by false r y z s t e f = f

module _ (way : Way) (runs : List Run) (ats others : List ℤ) (agree : (k : ℕ) → k < length runs → (run_at runs k).way ≡ way → int_at ats k ≡ int_at others k) where
  own_run : (n : ℕ) → runs_way way (slice_get runs n) ≡ true → int_at ats n ≡ int_at others n
  own_run n own = elim (slice_get_cases runs n).1 as (λ _. int_at ats n ≡ int_at others n) [
    | inl (r, within, here, same) ↦ agree n within
        (ap (λ (t : Run). t.way) (get_or_from_slice_get runs n r no_run here) ∙ own_way r.way way (ap (runs_way way) (sym here) ∙ own))
    | inr (past, none) ↦ (let no : false ≡ true = ap (runs_way way) (sym none) ∙ own in cc)
  ]

  corner_same : (n : ℕ) (old : ℤ) → corner way runs ats n old ≡ corner way runs others n old
  corner_same n old = corner_by (runs_way way (slice_get runs n)) (int_at ats n) (int_at others n) old (own_run n)

  pub moved_same : (k : ℕ) → k < length runs → moved_run way runs ats k ≡ moved_run way runs others k
  moved_same k h =
      let r = run_at runs k in
      let from = along r.way (start_of_run r) in
      let to = along r.way (end_of_run r) in
      moved_by (is_way r.way way) r (int_at ats k) (int_at others k)
      (stretch r.heading r (corner way runs ats (k - 1) from) (corner way runs ats (k + 1) to)) (stretch r.heading r (corner way runs others (k - 1) from) (corner way runs others (k + 1) to))
      (λ own. agree k h (own_way r.way way own))
      (ap (λ z. stretch r.heading r z (corner way runs ats (k + 1) to)) (corner_same (k - 1) from) ∙ ap (λ z. stretch r.heading r (corner way runs others (k - 1) from) z) (corner_same (k + 1) to))

-- what a phase makes of routes that are alike is alike
module _ (solids : List Solid) (before others : List PhaseRoute) (alike : AreRoutesAlike before others) (way : Way) (nudge : ℤ) (after after_others : List PhaseRoute)
    (one : IsPhase solids before way nudge after) (two : IsPhase solids others way nudge after_others) (good : All IsPhaseRoute before) (edges : AllPairs (λ (r s : PhaseRoute). r.edge ≢ s.edge) before)
    (solvable : All (λ (b : RunBundle). IsBundle b.bundle) one.found) where
  like : (k : ℕ) (d e : PhaseRoute) → k < length before → IsRouteAlike (get_or before k d) (get_or others k e)
  like k d e h = alike.each k (get_or before k d) (get_or others k e) (slice_get-get_or before k d h) (slice_get-get_or others k e (omega (arith, alike.count)))

  turned : AreRoutesAlike others before
  turned = record { count = sym alike.count; each = λ k r s at_r at_s. turned_alike s r (alike.each k s r at_s at_r) }

  other_edges : AllPairs (λ (r s : PhaseRoute). r.edge ≢ s.edge) others
  other_edges i j d h g same = edges i j d h (omega (arith, g, alike.count)) ((like i d d (omega (arith, alike.count))).edge ∙ same ∙ sym (like j d d (omega (arith, alike.count))).edge)

  same_bundles : AreBundles solids before way nudge two.found
  same_bundles = bundles_alike solids others before turned other_edges way nudge two.found two.bundles

  route_after : (k : ℕ) (r s : PhaseRoute) → slice_get after k ≡ Some r → slice_get after_others k ≡ Some s → IsRouteAlike r s
  route_after k r s at_r at_s =
      let within : k < length before = omega (arith, slice_get_within after k r at_r, one.count) in
      let a = get_or before k r in
      let b = get_or others k r in
      let same = like k r r within in
      let first = one.moved k a r (slice_get-get_or before k r within) at_r in
      let second = two.moved k b s (slice_get-get_or others k r (omega (arith, within, alike.count))) at_s in
      let rs = a.runs.items in
      let put : (j : ℕ) → j < length rs → (run_at rs j).way ≡ way → IsPutAt two.found two.solutions (run_at rs j) (int_at second.ats j) =
      subst (λ runs. (j : ℕ) → j < length runs → (run_at runs j).way ≡ way → IsPutAt two.found two.solutions (run_at runs j) (int_at second.ats j)) (sym same.runs) second.put in
      let agree : (j : ℕ) → j < length rs → (run_at rs j).way ≡ way → int_at first.ats j ≡ int_at second.ats j = λ j h own.
      one_put solids before way nudge good edges one.found two.found one.bundles same_bundles solvable one.solutions two.solutions one.solved one.each two.each (run_at rs j) (int_at first.ats j) (int_at second.ats j) (first.put j h own) (put j h own) in
      let moved : (j : ℕ) → j < length rs → run_at s.runs.items j ≡ moved_run way rs second.ats j =
      subst (λ runs. (j : ℕ) → j < length runs → run_at s.runs.items j ≡ moved_run way runs second.ats j) (sym same.runs) second.runs in
      record {
        edge = first.edge ∙ same.edge ∙ sym second.edge;
        weight = first.weight ∙ same.weight ∙ sym second.weight;
        runs = same_lists r.runs.items s.runs.items (first.count ∙ ap length same.runs ∙ sym second.count)
            (λ j d h. let h_rs : j < length rs = omega (arith, h, first.count) in
            get_or_default r.runs.items j d no_run h ∙ first.runs j h_rs ∙ moved_same way rs first.ats second.ats agree j h_rs ∙ sym (moved j h_rs)
            ∙ sym (get_or_default s.runs.items j d no_run (omega (arith, h, first.count, second.count, ap length same.runs))));
        source = first.source ∙ same.source ∙ sym second.source;
        target = first.target ∙ same.target ∙ sym second.target;
        via = first.via ∙ same.via ∙ sym second.via;
      }

  pub one_phase : AreRoutesAlike after after_others
  one_phase = record { count = one.count ∙ alike.count ∙ sym two.count; each = route_after }
