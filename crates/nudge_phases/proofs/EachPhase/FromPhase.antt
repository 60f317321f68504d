-- What a phase owes each route it gives.
use Rattle.std.proofs.Common.{◌≡◌, ◌≢◌, ◌⊎◌, ◌↔◌, ℕ, ◌+◌, ◌-◌, ◌<◌, ◌==◌, ℤ, pos, ◌+ℤ◌, ◌≤ℤ◌, ◌<ℤ◌, Bool, true, false, IsTrue, Some, None, List, [], map, length, get_or, inl, inr, refl, sym, ap, subst, ◌∙◌, arith, if◌then◌else◌}
use Rattle.std.specs.Prelude.{slice_get, slice_index, Contains, All, AllPairs, IsSome, int_lt}
use Rattle.std.specs.Option.{option_map}
use Rattle.std.proofs.lemmas.Bool.{cases_lt, cases_Bool}
use Rattle.std.proofs.lemmas.Bool.Decides.{nat_tests}
use Rattle.std.proofs.lemmas.Int.{ints, by_lt_z}
use Rattle.std.proofs.lemmas.List.{get_or-map, length-map, get_or_default}
use Rattle.std.proofs.lemmas.List.Elements.{All-get_or, All-contains, Contains-get_or}
use Rattle.std.proofs.lemmas.Option.{slice_get-map, slice_get_within, slice_get-get_or, slice_get_cases, get_or_from_slice_get, same_Some}
use Rattle.plane_geom.specs.declared.point.Dir.{Dir}
use Rattle.plane_geom.specs.declared.point.Dir.TheVariants.{East, South, West, North}
use Rattle.plane_geom.specs.declared.point.Way.{Way}
use Rattle.plane_geom.specs.declared.rect.Solid.{Solid}
use Rattle.plane_geom.specs.Point.{opposite}
use Rattle.segment_order.specs.declared.run.Run.{Run}
use Rattle.segment_order.specs.Run.{run_at}
use Rattle.separation_model.specs.declared.bundle.Item.{Item}
use Rattle.separation_model.specs.declared.bundle.Rule.{Rule}
use Rattle.separation_model.specs.declared.bundle.Solution.{Solution}
use Rattle.separation_model.specs.Bundle.{int_at, item_at, no_item, IsWithinLimits, slack}
use Rattle.separation_model.proofs.Rounding.{rounded_low, rounded_high, rounded_gap}
use Rattle.channel_bundles.specs.declared.route.PhaseRoute.{PhaseRoute}
use Rattle.channel_bundles.specs.declared.member.Member.{Member}
use Rattle.channel_bundles.specs.declared.channel.RunBundle.{RunBundle}
use Rattle.channel_bundles.specs.Route.{IsFixed, IsPhaseRoute}
use Rattle.channel_bundles.specs.Limits.{IsReached, MayStandAt, HasLimits}
use Rattle.channel_bundles.specs.Links.{IsLink, asks, asks_movable, is_second_next, item_of, link, linked, member_at, no_member, overlap, rules_after}
use Rattle.channel_bundles.specs.Bundles.{Standing, IsStanding, IsBundleOf, AreBundles, AreBundlesOf, members_at, members_of}
use Rattle.channel_bundles.specs.Classes.{Connected, Rise}
use Rattle.channel_bundles.proofs.Ordered.{rule_after}
use Rattle.nudge_phases.proofs.MovedRuns.Bundled.{IsRunOf, standing_run, one_class}
use Rattle.channel_bundles.proofs.Placing.{at_rises}
use Rattle.channel_bundles.proofs.Trees.{connected_link}
use Rattle.nudge_phases.proofs.MovedRuns.OnePlace.{one_place}
use Rattle.separation_model.specs.Rounded.{IsRoundedDown}
use Rattle.nudge_phases.specs.Moved.{IsPutAt}
use Rattle.nudge_phases.specs.Phase.{IsSolutionOf}
use Rattle.nudge_phases.specs.Ready.{HoldsPorts}
use Rattle.nudge_phases.proofs.Lengths.{HaveLength}
use Rattle.nudge_phases.proofs.AlongRuns.Ends.{far_end}
use Rattle.nudge_phases.proofs.MovedRuns.Ends.{turned}
use Rattle.nudge_phases.proofs.MovedRuns.Corners.{IsSettled, begin_at, end_at}

same_route : (routes : List PhaseRoute) (x y : PhaseRoute) → AllPairs (λ r s. r.edge ≢ s.edge) routes → Contains routes x → Contains routes y → x.edge ≡ y.edge → x ≡ y
same_route routes x y pairs has_x has_y e =
    let ex : get_or routes has_x.0 x ≡ x = has_x.2 in
    let ey : get_or routes has_y.0 x ≡ y = get_or_default routes has_y.0 x y has_y.1 ∙ has_y.2 in
    let edge : (get_or routes has_x.0 x).edge ≡ (get_or routes has_y.0 x).edge = ap (λ (r : PhaseRoute). r.edge) ex ∙ e ∙ sym (ap (λ (r : PhaseRoute). r.edge) ey) in
    elim (cases_lt has_x.0 has_y.0) as (λ _. x ≡ y) [
      | inl earlier ↦ absurd (pairs has_x.0 has_y.0 x earlier has_y.1 edge)
      | inr behind ↦ (elim (cases_lt has_y.0 has_x.0) as (λ _. x ≡ y) [
        | inl later ↦ absurd (pairs has_y.0 has_x.0 x later has_x.1 (sym edge))
        | inr both ↦ (let same : has_x.0 ≡ has_y.0 = omega arith in sym ex ∙ ap (λ i. get_or routes i x) same ∙ ey)
      ])
    ]

-- the order of two coordinates, by a heading
by_heading : (d : Dir) (r : Run) (a b y z : ℤ) → r.lo <ℤ r.hi → far_end (opposite d) r ≡ a → far_end d r ≡ b → (a <ℤ b → y ≤ℤ z) → (b <ℤ a → z ≤ℤ y) → IsReached d y z
by_heading East r a b y z h e f up down = up (omega (arith, ints, e, f, h))
by_heading South r a b y z h e f up down = up (omega (arith, ints, e, f, h))
by_heading West r a b y z h e f up down = down (omega (arith, ints, e, f, h))
by_heading North r a b y z h e f up down = down (omega (arith, ints, e, f, h))

-- numbers that are compared
pub same_number : (m n : ℕ) → m ≡ n → (m == n) ≡ true
same_number m n e = grind (arith, nat_tests)

pub other_number : (m n : ℕ) → m ≢ n → (m == n) ≡ false
other_number m n e = grind (arith, nat_tests)

-- two runs of one route with one between them are joined, but where both are fixed
second_next : (r s : Run) → (r.place + 2 ≡ s.place) ⊎ (s.place + 2 ≡ r.place) → is_second_next r s ≡ true
second_next r s (inl e) = ap (λ b. if b then true else (s.place + 2 == r.place)) (same_number (r.place + 2) s.place e)
second_next r s (inr e) = ap (λ b. if b then true else (s.place + 2 == r.place)) (other_number (r.place + 2) s.place (λ f. absurd (omega arith))) ∙ same_number (s.place + 2) r.place e

asks_join : (a b : Member) → (a.fixed ≡ false) ⊎ (b.fixed ≡ false) → a.run.edge ≡ b.run.edge → is_second_next a.run b.run ≡ true → asks a b ≡ Some false
asks_join a b movable e f =
    let join : asks_movable a.run b.run ≡ Some false =
    ap (λ t. if t then (if is_second_next a.run b.run then Some false else None) else (if overlap a.run b.run then Some true else None)) (same_number a.run.edge b.run.edge e)
    ∙ ap (λ t. if t then Some false else None) f in
    elim movable as (λ _. asks a b ≡ Some false) [
      | inl free ↦ ap (λ t. if t then (if b.fixed then None else asks_movable a.run b.run) else asks_movable a.run b.run) free ∙ join
      | inr free ↦ (elim (cases_Bool a.fixed) as (λ _. asks a b ≡ Some false) [
        | inl stays ↦ ap (λ t. if t then (if b.fixed then None else asks_movable a.run b.run) else asks_movable a.run b.run) stays ∙ ap (λ t. if t then None else asks_movable a.run b.run) free ∙ join
        | inr moves ↦ ap (λ t. if t then (if b.fixed then None else asks_movable a.run b.run) else asks_movable a.run b.run) moves ∙ join
      ])
    ]

is_less : (x y : ℤ) → x <ℤ y → int_lt x y ≡ true
is_less x y h = grind (arith, ints)

join_link : (nudge : ℤ) (a b : Member) → asks a b ≡ Some false → b.low <ℤ a.high → link nudge a b ≡ Some false
join_link nudge a b e h = ap (linked nudge a b) e ∙ ap (λ t. if t then Some false else None) (is_less b.low a.high h)

module _ (solids : List Solid) (routes : List PhaseRoute) (way : Way) (nudge : ℤ) (found : List RunBundle) (solutions : List Solution) (bundles : AreBundles solids routes way nudge found)
    (solved : (k : ℕ) (b : RunBundle) (s : Solution) → slice_get found k ≡ Some b → slice_get solutions k ≡ Some s → IsSolutionOf b.bundle s)
    (good : All IsPhaseRoute routes) (edges : AllPairs (λ r s. r.edge ≢ s.edge) routes) where
  abbrev all : List Standing
  all = bundles.all

  abbrev members : List Member
  members = members_of all

  abbrev made : AreBundlesOf nudge members found
  made = bundles.bundles

  abbrev classes : List (List ℕ)
  classes = made.classes

  as_many : length members ≡ length all
  as_many = length-map {B = Member} all (λ s. s.member)

  -- the bundle at the place has the runs of its class
  bundle_is : (k : ℕ) (b : RunBundle) → slice_get found k ≡ Some b → IsBundleOf nudge (members_at members (get_or classes k [])) b
  bundle_is k b e =
      subst (IsBundleOf nudge (members_at members (get_or classes k []))) (get_or_from_slice_get found k b b e) (made.each k b (slice_get_within found k b e))

  -- the place of the run in the bundles, and its coordinate by the solution of its bundle
  pub record IsSpotOf (r : Run) (z : ℤ) : Type 0 where
    pub class : ℕ
    pub item : ℕ
    pub index : ℕ
    pub st : Standing
    pub bundle : RunBundle
    pub solution : Solution
    pub class_in : class < length classes
    pub at_item : slice_get (get_or classes class []) item ≡ Some index
    pub index_in : index < length all
    pub here : slice_get all index ≡ Some st
    pub is : st.member.run ≡ r
    pub of_bundle : slice_get found class ≡ Some bundle
    pub of_solution : slice_get solutions class ≡ Some solution
    pub down : IsRoundedDown (int_at solution.pos.items item) (slice_index solution.den.items item) z

  member_is : (i : ℕ) (st : Standing) → slice_get all i ≡ Some st → member_at members i ≡ st.member
  member_is i st e =
      get_or-map (λ (s : Standing). s.member) all i st no_member (slice_get_within all i st e) ∙ ap (λ (s : Standing). s.member) (get_or_from_slice_get all i st st e)

  spot_with : (r : Run) (z : ℤ) (put : IsPutAt found solutions r z) → (s : IsSpotOf r z) × (s.class ≡ put.place) × (s.item ≡ put.item)
  spot_with r z put =
      let cls = get_or classes put.place [] in
      let ms = members_at members cls in
      let class_in : put.place < length classes = omega (arith, slice_get_within found put.place put.bundle put.of_bundle, made.count) in
      let is_bundle = bundle_is put.place put.bundle put.of_bundle in
      let run_is : slice_get (map (λ (m : Member). m.run) ms) put.item ≡ Some r = ap (λ xs. slice_get xs put.item) (sym is_bundle.runs) ∙ put.here in
      let item_in : put.item < length cls = omega (arith, slice_get_within (map (λ (m : Member). m.run) ms) put.item r run_is, length-map ms (λ (m : Member). m.run), length-map cls (member_at members)) in
      let i = get_or cls put.item 0 in
      let at_item : slice_get cls put.item ≡ Some i = slice_get-get_or cls put.item 0 item_in in
      let within : i < length members = All-get_or (λ j. j < length members) cls put.item 0 item_in (All-get_or (All (λ j. j < length members)) classes put.place [] class_in made.are_classes.within) in
      let index_in : i < length all = omega (arith, within, as_many) in
      let found_run : Some (member_at members i).run ≡ Some r =
      sym (slice_get-map (λ (m : Member). m.run) ms put.item ∙ ap (option_map (λ (m : Member). m.run)) (slice_get-map (member_at members) cls put.item ∙ ap (option_map (member_at members)) at_item)) ∙ run_is in
      elim (slice_get_cases all i).1 as (λ _. (s : IsSpotOf r z) × (s.class ≡ put.place) × (s.item ≡ put.item)) [
        | inl (st, within, here, same) ↦ (
          record {
            class = put.place;
            item = put.item;
            index = i;
            st = st;
            bundle = put.bundle;
            solution = put.solution;
            class_in = class_in;
            at_item = at_item;
            index_in = index_in;
            here = here;
            is = ap (λ (m : Member). m.run) (sym (member_is i st here)) ∙ same_Some (member_at members i).run r found_run;
            of_bundle = put.of_bundle;
            of_solution = put.of_solution;
            down = put.down;
          },
          refl,
          refl,
        )
        | inr (past, none) ↦ absurd (omega arith)
      ]

  pub spot_of : (r : Run) (z : ℤ) → IsPutAt found solutions r z → IsSpotOf r z
  spot_of r z put = (spot_with r z put).0

  member_there : (r : Run) (z : ℤ) (s : IsSpotOf r z) → slice_get (members_at members (get_or classes s.class [])) s.item ≡ Some s.st.member
  member_there r z s = slice_get-map (member_at members) (get_or classes s.class []) s.item ∙ ap (option_map (member_at members)) s.at_item ∙ ap Some (member_is s.index s.st s.here)

  -- rounded down, the run stands within its limits
  pub in_limits : (r : Run) (z : ℤ) (s : IsSpotOf r z) → (s.st.member.low ≤ℤ z) × (z ≤ℤ s.st.member.high)
  in_limits r z s =
      let ms = members_at members (get_or classes s.class []) in
      let items = s.bundle.bundle.items.items in
      let is_bundle = bundle_is s.class s.bundle s.of_bundle in
      let meets = (solved s.class s.bundle s.solution s.of_bundle s.of_solution).least.meets in
      let item_there : slice_get items s.item ≡ Some (item_of s.st.member) = ap (λ xs. slice_get xs s.item) is_bundle.items ∙ slice_get-map item_of ms s.item ∙ ap (option_map item_of) (member_there r z s) in
      let inside : s.item < length items = slice_get_within items s.item (item_of s.st.member) item_there in
      let item_is : item_at items s.item ≡ item_of s.st.member = get_or_from_slice_get items s.item (item_of s.st.member) no_item item_there in
      let den = slice_index s.solution.den.items s.item in
      let place = int_at s.solution.pos.items s.item in
      let limits : IsWithinLimits (item_of s.st.member) den place = subst (λ (i : Item). IsWithinLimits i den place) item_is (meets.limits s.item inside) in
      let some : 0 < den = All-get_or (λ d. 0 < d) s.solution.den.items s.item 0 (omega (arith, meets.dens, inside)) meets.positive in (
        rounded_low s.st.member.low place z den some limits.low s.down,
        rounded_high s.st.member.high place z den some limits.high s.down,
      )

  -- what stands in the order is known
  pub standing : (r : Run) (z : ℤ) (s : IsSpotOf r z) → IsStanding solids s.st
  standing r z s = subst (IsStanding solids) (get_or_from_slice_get all s.index s.st s.st s.here) (All-get_or (IsStanding solids) all s.index s.st s.index_in bundles.in_order.each)

  pub run_of : (r : Run) (z : ℤ) (s : IsSpotOf r z) → IsRunOf routes (s.st.route, s.st.member.run)
  run_of r z s =
      subst (λ (t : Standing). IsRunOf routes (t.route, t.member.run)) (get_or_from_slice_get all s.index s.st s.st s.here) (standing_run way routes all s.index s.st bundles.in_order.once s.index_in)

  -- the run of the route is that run in the order
  pub record IsOf (route : PhaseRoute) (k : ℕ) (r : Run) (z : ℤ) (s : IsSpotOf r z) : Type 0 where
    pub route_is : s.st.route ≡ route
    pub place_is : s.st.member.run.place - 1 ≡ k

  pub spot_is : (route : PhaseRoute) (k : ℕ) (z : ℤ) → Contains routes route → k < length route.runs.items → (s : IsSpotOf (run_at route.runs.items k) z) → IsOf route k (run_at route.runs.items k) z s
  spot_is route k z has h s =
      let r = run_at route.runs.items k in
      let among = run_of r z s in
      let one = All-contains IsPhaseRoute routes route good has in
      let two = All-contains IsPhaseRoute routes s.st.route good among.route in
      let edge : s.st.route.edge ≡ route.edge =
      sym (two.runs.edges among.index among.in_list) ∙ ap (λ (t : Run). t.edge) (among.here ∙ s.is) ∙ one.runs.edges k h in
      let place : s.st.member.run.place ≡ k + 1 = ap (λ (t : Run). t.place) s.is ∙ one.runs.places k h in
      record { route_is = same_route routes s.st.route route edges among.route has edge; place_is = omega (arith, place) }

  pub known : (route : PhaseRoute) (k : ℕ) (z : ℤ) → Contains routes route → k < length route.runs.items → (s : IsSpotOf (run_at route.runs.items k) z) →
      (IsTrue s.st.member.fixed ↔ IsFixed route k) × HasLimits solids route k s.st.member.low s.st.member.high
  known route k z has h s =
      let is = spot_is route k z has h s in
      let st = standing (run_at route.runs.items k) z s in
      subst (λ (t : PhaseRoute). (IsTrue s.st.member.fixed ↔ IsFixed t k) × HasLimits solids t k s.st.member.low s.st.member.high) is.route_is
      (subst (λ j. (IsTrue s.st.member.fixed ↔ IsFixed s.st.route j) × HasLimits solids s.st.route j s.st.member.low s.st.member.high) is.place_is (st.fixed, st.limits))

  -- a fixed run stays, and any other stands where it may
  pub fixed_stays : (route : PhaseRoute) (k : ℕ) (z : ℤ) → Contains routes route → k < length route.runs.items → IsSpotOf (run_at route.runs.items k) z → IsFixed route k → z ≡ (run_at route.runs.items k).at
  fixed_stays route k z has h s fixed =
      let limits = in_limits (run_at route.runs.items k) z s in
      let ends = (known route k z has h s).1.fixed fixed in
      omega (arith, ints, limits.0, limits.1, ends.0, ends.1)

  pub stands_there : (route : PhaseRoute) (k : ℕ) (z : ℤ) → Contains routes route → k < length route.runs.items → IsSpotOf (run_at route.runs.items k) z → (z ≡ (run_at route.runs.items k).at) ⊎ MayStandAt solids route k z
  stands_there route k z has h s =
      let facts = known route k z has h s in
      elim (cases_Bool s.st.member.fixed) as (λ _. (z ≡ (run_at route.runs.items k).at) ⊎ MayStandAt solids route k z) [
        | inl stays ↦ inl (fixed_stays route k z has h s (facts.0.0 stays))
        | inr moves ↦ inr ((facts.1.movable (λ fixed. let no : false ≡ true = sym moves ∙ facts.0.1 fixed in cc) z).1 (in_limits (run_at route.runs.items k) z s))
      ]

  index_in_class : (r : Run) (z : ℤ) (s : IsSpotOf r z) → Contains (get_or classes s.class []) s.index
  index_in_class r z s =
      let cls = get_or classes s.class [] in
      (s.item, slice_get_within cls s.item s.index s.at_item, get_or_from_slice_get cls s.item s.index s.index s.at_item)

  -- two linked runs are items of one bundle, and keep their rule
  pub rule_kept : (r t : Run) (y z : ℤ) (p : IsSpotOf r y) (q : IsSpotOf t z) (spaced : Bool) → p.index < q.index → link nudge p.st.member q.st.member ≡ Some spaced →
      (y +ℤ (if spaced then q.solution.gap else pos 0)) ≤ℤ z
  rule_kept r t y z p q spaced before e =
      let are = made.are_classes in
      let a = p.st.member in
      let b = q.st.member in
      let cls = get_or classes p.class [] in
      let has = Contains-get_or classes p.class [] p.class_in in
      let are_there : link nudge (member_at members p.index) (member_at members q.index) ≡ Some spaced =
      ap (λ m. link nudge m (member_at members q.index)) (member_is p.index p.st p.here) ∙ ap (link nudge a) (member_is q.index q.st q.here) ∙ e in
      let joined : Connected (IsLink nudge members) p.index q.index = connected_link p.index q.index (record {
        forward = before;
        within = omega (arith, q.index_in, as_many);
        linked = subst (λ o. IsSome o) (sym are_there) refl;
      }) in
      let there : Contains cls q.index = (are.linked cls p.index q.index has (index_in_class r y p) (omega (arith, q.index_in, as_many))).1 joined in
      let one : q.class ≡ p.class = one_class (Connected (IsLink nudge members)) (length members) classes are q.class p.class q.index q.class_in p.class_in (index_in_class t z q) there in
      let ms = members_at members cls in
      let first = member_there r y p in
      let second : slice_get ms q.item ≡ Some b = subst (λ c. slice_get (members_at members (get_or classes c [])) q.item ≡ Some b) one (member_there t z q) in
      let rise = All-get_or Rise classes p.class [] p.class_in are.rising in
      let item_p : get_or cls p.item 0 ≡ p.index = get_or_from_slice_get cls p.item p.index 0 p.at_item in
      let q_at : slice_get cls q.item ≡ Some q.index = subst (λ c. slice_get (get_or classes c []) q.item ≡ Some q.index) one q.at_item in
      let item_q : get_or cls q.item 0 ≡ q.index = get_or_from_slice_get cls q.item q.index 0 q_at in
      let p_in = slice_get_within cls p.item p.index p.at_item in
      let in_order : p.item < q.item = elim (cases_lt p.item q.item) as (λ _. p.item < q.item) [
        | inl l ↦ l
        | inr g ↦ (elim (cases_lt q.item p.item) as (λ _. p.item < q.item) [
          | inl l ↦ (let falls = rise q.item p.item l p_in in absurd (omega (arith, falls, item_p, item_q)))
          | inr back ↦ (let same : p.item ≡ q.item = omega arith in absurd (omega (arith, ap (λ i. get_or cls i 0) same, item_p, item_q)))
        ])
      ] in
      let is_bundle = bundle_is p.class p.bundle p.of_bundle in
      let rule : Rule = record { left = p.item; right = q.item; spaced = spaced } in
      let rule_there : Contains p.bundle.bundle.rules.items rule =
      subst (λ rules. Contains rules rule) (sym is_bundle.rules)
      (subst (λ i. Contains (rules_after nudge 0 ms) (record { left = i; right = q.item; spaced = spaced })) (omega arith)
      (subst (λ j. Contains (rules_after nudge 0 ms) (record { left = 0 + p.item; right = j; spaced = spaced })) (omega arith)
      (rule_after nudge 0 p.item q.item a b ms spaced first second in_order e))) in
      let meets = (solved p.class p.bundle p.solution p.of_bundle p.of_solution).least.meets in
      let slack_there = All-contains (λ u. pos 0 ≤ℤ slack p.solution.gap p.solution.den.items p.solution.pos.items u) p.bundle.bundle.rules.items rule meets.rules rule_there in
      let same_solution : Some q.solution ≡ Some p.solution = sym q.of_solution ∙ ap (slice_get solutions) one ∙ p.of_solution in
      let solution_is : q.solution ≡ p.solution = same_Some q.solution p.solution same_solution in
      let down : IsRoundedDown (int_at p.solution.pos.items q.item) (slice_index p.solution.den.items q.item) z = subst (λ (u : Solution). IsRoundedDown (int_at u.pos.items q.item) (slice_index u.den.items q.item) z) solution_is q.down in
      let count : length p.bundle.bundle.items.items ≡ length ms = ap length is_bundle.items ∙ length-map ms item_of in
      let q_in : q.item < length ms = slice_get_within ms q.item b second in
      subst (λ (u : Solution). (y +ℤ (if spaced then u.gap else pos 0)) ≤ℤ z) (sym solution_is)
      (rounded_gap (int_at p.solution.pos.items p.item) (int_at p.solution.pos.items q.item) y z (if spaced then p.solution.gap else pos 0) (slice_index p.solution.den.items p.item) (slice_index p.solution.den.items q.item)
      (All-get_or (λ d. 0 < d) p.solution.den.items p.item 0 (omega (arith, meets.dens, count, q_in)) meets.positive)
      (All-get_or (λ d. 0 < d) p.solution.den.items q.item 0 (omega (arith, meets.dens, count, q_in)) meets.positive)
      p.down down slack_there)

  -- a separation is met: at the gap of the bundle where it links the two, at the wanted nudge where the limits alone keep them apart
  pub apart_kept : (r t : Run) (y z : ℤ) (p : IsSpotOf r y) (q : IsSpotOf t z) → p.index < q.index → asks p.st.member q.st.member ≡ Some true →
      (link nudge p.st.member q.st.member ≡ Some true → (y +ℤ q.solution.gap) ≤ℤ z) × (link nudge p.st.member q.st.member ≡ None → (y +ℤ nudge) ≤ℤ z)
  apart_kept r t y z p q before asked =
      let a = p.st.member in
      let b = q.st.member in (
        λ e. rule_kept r t y z p q true before e,
        λ e. by_lt_z b.low (a.high +ℤ nudge)
            (λ pressed. let linked_there : link nudge a b ≡ Some true = ap (linked nudge a b) asked ∙ ap (λ u. if u then Some true else None) (is_less b.low (a.high +ℤ nudge) pressed) in
            let no : None ≡ Some true = sym e ∙ linked_there in
            cc)
            (λ apart. let low = in_limits r y p in
            let high = in_limits t z q in
            omega (arith, ints, low.1, high.0, apart)),
      )

  -- the run has that place alone
  one_spot : (r : Run) (y : ℤ) (p : IsSpotOf r y) (i : ℕ) (a : Standing) → slice_get all i ≡ Some a → a.member.run ≡ r → (p.index ≡ i) × (p.st ≡ a)
  one_spot r y p i a at_i e =
      let same : p.index ≡ i = one_place way routes all good edges bundles.in_order.once p.index i p.st p.index_in (slice_get_within all i a at_i)
      (ap (λ (t : Standing). t.member.run) (get_or_from_slice_get all p.index p.st p.st p.here) ∙ p.is ∙ sym e ∙ sym (ap (λ (t : Standing). t.member.run) (get_or_from_slice_get all i a p.st at_i))) in
      (same, same_Some p.st a (sym p.here ∙ ap (slice_get all) same ∙ at_i))

  -- and one place in one bundle
  same_spots : (r : Run) (y z : ℤ) (p : IsSpotOf r y) (q : IsSpotOf r z) → (p.class ≡ q.class) × (p.item ≡ q.item)
  same_spots r y z p q =
      let index : p.index ≡ q.index = (one_spot r y p q.index q.st q.here q.is).0 in
      let are = made.are_classes in
      let class : p.class ≡ q.class = one_class (Connected (IsLink nudge members)) (length members) classes are p.class q.class p.index p.class_in q.class_in
      (index_in_class r y p) (subst (Contains (get_or classes q.class [])) (sym index) (index_in_class r z q)) in
      let cls = get_or classes p.class [] in
      let q_at : slice_get cls q.item ≡ Some q.index = subst (λ c. slice_get (get_or classes c []) q.item ≡ Some q.index) (sym class) q.at_item in
      let rise = All-get_or Rise classes p.class [] p.class_in are.rising in
      let item_p : get_or cls p.item 0 ≡ p.index = get_or_from_slice_get cls p.item p.index 0 p.at_item in
      let item_q : get_or cls q.item 0 ≡ q.index = get_or_from_slice_get cls q.item q.index 0 q_at in
      let p_in = slice_get_within cls p.item p.index p.at_item in
      let q_in = slice_get_within cls q.item q.index q_at in (
        class,
        elim (cases_lt p.item q.item) as (λ _. p.item ≡ q.item) [
          | inl l ↦ absurd (omega (arith, rise p.item q.item l q_in, item_p, item_q, index))
          | inr g ↦ (elim (cases_lt q.item p.item) as (λ _. p.item ≡ q.item) [
            | inl l ↦ absurd (omega (arith, rise q.item p.item l p_in, item_p, item_q, index))
            | inr h ↦ omega arith
          ])
        ],
      )

  pub same_puts : (r : Run) (y z : ℤ) (p : IsPutAt found solutions r y) (q : IsPutAt found solutions r z) → (p.place ≡ q.place) × (p.item ≡ q.item)
  same_puts r y z p q =
      let a = spot_with r y p in
      let b = spot_with r z q in
      let same = same_spots r y z a.0 b.0 in
      (sym a.1 ∙ same.0 ∙ b.1, sym a.2 ∙ same.1 ∙ b.2)

  pub all_apart : (i j : ℕ) (a b : Standing) (y z : ℤ) → i < j → slice_get all i ≡ Some a → slice_get all j ≡ Some b → asks a.member b.member ≡ Some true →
      IsPutAt found solutions a.member.run y → (at : IsPutAt found solutions b.member.run z) →
      (link nudge a.member b.member ≡ Some true → (y +ℤ at.solution.gap) ≤ℤ z) × (link nudge a.member b.member ≡ None → (y +ℤ nudge) ≤ℤ z)
  unfolding spot_of
  all_apart i j a b y z before at_i at_j asked put at =
      let p = spot_of a.member.run y put in
      let q = spot_of b.member.run z at in
      let one = one_spot a.member.run y p i a at_i refl in
      let two = one_spot b.member.run z q j b at_j refl in
      let class_is : q.class ≡ at.place = (spot_with b.member.run z at).1 in
      let solution_is : q.solution ≡ at.solution = same_Some q.solution at.solution (sym q.of_solution ∙ ap (slice_get solutions) class_is ∙ at.of_solution) in
      let kept = apart_kept a.member.run b.member.run y z p q (omega (arith, one.0, two.0))
      (ap (λ (u : Standing). asks u.member q.st.member) one.1 ∙ ap (λ (u : Standing). asks a.member u.member) two.1 ∙ asked) in
      let links : link nudge p.st.member q.st.member ≡ link nudge a.member b.member = ap (λ (u : Standing). link nudge u.member q.st.member) one.1 ∙ ap (λ (u : Standing). link nudge a.member u.member) two.1 in (
        λ e. subst (λ (u : Solution). (y +ℤ u.gap) ≤ℤ z) solution_is (kept.0 (links ∙ e)),
        λ e. kept.1 (links ∙ e),
      )

  -- two runs of a route with one between them keep their order
  pub join_kept : (route : PhaseRoute) (k j : ℕ) (y z : ℤ) → Contains routes route → k < length route.runs.items → j < length route.runs.items →
      IsSpotOf (run_at route.runs.items k) y → IsSpotOf (run_at route.runs.items j) z → (k + 2 ≡ j) ⊎ (j + 2 ≡ k) → (run_at route.runs.items k).at <ℤ (run_at route.runs.items j).at → y ≤ℤ z
  join_kept route k j y z has h g p q next rises =
      let r = run_at route.runs.items k in
      let t = run_at route.runs.items j in
      let a = p.st.member in
      let b = q.st.member in
      let are = (All-contains IsPhaseRoute routes route good has).runs in
      let low = in_limits r y p in
      let high = in_limits t z q in
      let st_p = get_or_from_slice_get all p.index p.st p.st p.here in
      let st_q = get_or_from_slice_get all q.index q.st p.st q.here in
      let before : p.index < q.index = elim (cases_lt p.index q.index) as (λ _. p.index < q.index) [
        | inl l ↦ l
        | inr back ↦ (let falls = at_rises all bundles.in_order.sorted q.index p.index p.st back p.index_in in
            absurd (omega (arith, ints, falls, ap (λ (s : Standing). s.member.run.at) st_p, ap (λ (s : Standing). s.member.run.at) st_q, ap (λ (u : Run). u.at) p.is, ap (λ (u : Run). u.at) q.is, rises)))
      ] in
      let edge : a.run.edge ≡ b.run.edge = ap (λ (u : Run). u.edge) p.is ∙ are.edges k h ∙ sym (are.edges j g) ∙ sym (ap (λ (u : Run). u.edge) q.is) in
      let place_p : a.run.place ≡ k + 1 = ap (λ (u : Run). u.place) p.is ∙ are.places k h in
      let place_q : b.run.place ≡ j + 1 = ap (λ (u : Run). u.place) q.is ∙ are.places j g in
      let second : (a.run.place + 2 ≡ b.run.place) ⊎ (b.run.place + 2 ≡ a.run.place) = elim next as (λ _. (a.run.place + 2 ≡ b.run.place) ⊎ (b.run.place + 2 ≡ a.run.place)) [
        | inl e ↦ inl (omega (arith, place_p, place_q, e))
        | inr e ↦ inr (omega (arith, place_p, place_q, e))
      ] in
      let movable : (a.fixed ≡ false) ⊎ (b.fixed ≡ false) → y ≤ℤ z = λ free.
      by_lt_z b.low a.high
      (λ pressed. let kept = rule_kept r t y z p q false before (join_link nudge a b (asks_join a b free edge (second_next a.run b.run second)) pressed) in omega (arith, ints, kept))
      (λ apart. omega (arith, ints, low.1, high.0, apart)) in
      elim (cases_Bool a.fixed) as (λ _. y ≤ℤ z) [
        | inr moves ↦ movable (inl moves)
        | inl stays ↦ (elim (cases_Bool b.fixed) as (λ _. y ≤ℤ z) [
          | inr moves ↦ movable (inr moves)
          | inl both ↦ (let one = fixed_stays route k y has h p ((known route k y has h p).0.0 stays) in
              let two = fixed_stays route j z has g q ((known route j z has g q).0.0 both) in
              omega (arith, ints, one, two, rises))
        ])
      ]

  -- a phase owes each of its routes what the next sections need
  pub is_settled : (route : PhaseRoute) (ats : List ℤ) → Contains routes route → HoldsPorts route → HaveLength (turned way) route.runs.items →
      ((k : ℕ) → k < length route.runs.items → (run_at route.runs.items k).way ≡ way → IsPutAt found solutions (run_at route.runs.items k) (int_at ats k)) → IsSettled solids way route ats
  is_settled route ats has ports long put =
      let rs = route.runs.items in
      let are = (All-contains IsPhaseRoute routes route good has).runs in
      let spot : (k : ℕ) → k < length rs → (run_at rs k).way ≡ way → IsSpotOf (run_at rs k) (int_at ats k) = λ k h own. spot_of (run_at rs k) (int_at ats k) (put k h own) in
      record {
        stays = λ k h own fixed. fixed_stays route k (int_at ats k) has h (spot k h own) fixed;
        stands = λ k h own. stands_there route k (int_at ats k) has h (spot k h own);
        order = λ k h one across two.
            let next : k + 1 + 1 ≡ k + 2 = omega arith in
            let r = run_at rs (k + 1) in
            let begin = (begin_at route route.edge are ports way k (omega arith) one across).0 in
            let finish = (end_at route route.edge are ports way (k + 1) (omega arith) (ap (λ i. (run_at rs i).way) next ∙ two) across).0 in
            let length_there : r.lo <ℤ r.hi = All-get_or (λ (u : Run). u.way ≡ turned way → u.lo <ℤ u.hi) rs (k + 1) _ (omega arith) long across in
            by_heading r.heading r (run_at rs k).at (run_at rs (k + 2)).at (int_at ats k) (int_at ats (k + 2)) length_there begin (finish ∙ ap (λ i. (run_at rs i).at) next)
            (λ up. join_kept route k (k + 2) _ _ has (omega arith) h (spot k (omega arith) one) (spot (k + 2) h two) (inl refl) up)
            (λ down. join_kept route (k + 2) k _ _ has h (omega arith) (spot (k + 2) h two) (spot k (omega arith) one) (inr refl) down);
      }
