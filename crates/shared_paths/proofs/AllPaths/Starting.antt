-- Where paths begin: at two stretches of which the one reaches past the beginning of the other.
use Rattle.std.proofs.Common.{◌≡◌, ◌⊎◌, ℕ, zero, suc, ◌+◌, ◌-◌, ◌<◌, ◌≤◌, ◌≤ℤ◌, ◌<ℤ◌, Bool, true, false, Some, None, List, [], ◌∷◌, length, get_or, take, drop, All, inl, inr, refl, sym, ap, ◌∙◌, subst, arith}
use Rattle.std.specs.Prelude.{AllPairs, Contains, if◌then◌else◌, nat_lt}
use Rattle.std.specs.declared.cmp.Ordering.{Ordering}
use Rattle.std.specs.declared.cmp.Ordering.TheVariants.{Less, Equal, Greater}
use Rattle.std.specs.Ordering.{match_ordering, nat_cmp, ordering_then}
use Rattle.std.specs.BTreeSet.{insert_key}
use Rattle.std.proofs.lemmas.Bool.{cases_lt, le-ltb, lt-ltb, ltb-true}
use Rattle.std.proofs.lemmas.Int.{ints}
use Rattle.std.proofs.lemmas.List.{drop_more, get_or-drop, length-drop, take_all}
use Rattle.std.proofs.lemmas.Map.Lookups.{exact_unsigned}
use Rattle.plane_geom.specs.declared.point.Way.{Way}
use Rattle.plane_geom.specs.declared.point.Way.TheVariants.{Vertical, Horizontal}
use Rattle.segment_order.specs.declared.run.Run.{Run}
use Rattle.segment_order.specs.Run.{no_run, run_at}
use Rattle.shared_paths.specs.declared.path.EdgeRuns.{EdgeRuns}
use Rattle.shared_paths.specs.declared.stretch.WholeLine.{WholeLine}
use Rattle.shared_paths.specs.declared.stretch.Stretch.{Stretch}
use Rattle.shared_paths.specs.declared.start.Start.{Start}
use Rattle.shared_paths.specs.Pairs.{AreCompanions, GoesOn}
use Rattle.shared_paths.specs.Listed.{AreRoutes, no_route, route_at}
use Rattle.shared_paths.specs.Crossings.{is_vertical}
use Rattle.shared_paths.specs.Starts.{BeginsFirst, IsStart, IsStretch, as_stretch, pair_of, start_from, start_of, stretch_of}
use Rattle.shared_paths.proofs.AllPaths.Stretches.{any_default, below_or_at, between}

-- the one stretch reaches past the beginning of the other, on one line
abbrev pub Reaches : Stretch → Stretch → Type 0
Reaches one other = (one.line ≡ other.line) × (other.lo <ℤ one.hi)

same_way : (v w : Way) → is_vertical v ≡ is_vertical w → v ≡ w
same_way Vertical Vertical e = refl
same_way Vertical Horizontal e = cc
same_way Horizontal Vertical e = cc
same_way Horizontal Horizontal e = refl

-- two stretches of which the one begins first and reaches the other are of companions, and only those
companions_of : (r q : Run) (k m i n : ℕ) → BeginsFirst (as_stretch r k m) (as_stretch q i n) → Reaches (as_stretch r k m) (as_stretch q i n) → q.lo <ℤ q.hi → AreCompanions r q
companions_of r q k m i n first reaches long =
    let begins : r.lo ≤ℤ q.lo = first.lo reaches.0 in
    record {
      way = same_way r.way q.way (ap (λ (l : WholeLine). l.is_vertical) reaches.0);
      at = ap (λ (l : WholeLine). l.at) reaches.0;
      begins = omega (arith, ints, begins, long);
      ends = reaches.1;
    }

other_way : (r q : Run) → AreCompanions r q → AreCompanions q r
other_way r q c = record { way = sym c.way; at = sym c.at; begins = c.ends; ends = c.begins }

reaches_of : (r q : Run) (k m i n : ℕ) → AreCompanions r q → Reaches (as_stretch r k m) (as_stretch q i n)
reaches_of r q k m i n c = (λ j. record { is_vertical = is_vertical (c.way j); at = c.at j }, c.ends)

-- which of two starts is chosen
chosen : (v w : Bool) (x y s : Start) → (if v then Some x else (if w then Some y else None)) ≡ Some s → ((v ≡ true) × (x ≡ s)) ⊎ ((w ≡ true) × (y ≡ s))
chosen true w x y s e = inl (refl, cc)
chosen false true x y s e = inr (refl, cc)
chosen false false x y s e = cc

-- the start is at the two stretches, that of the earlier route first
pub start_cases : (one other : Stretch) (s : Start) → start_of one other ≡ Some s →
    ((one.route < other.route) × (start_from one other ≡ s)) ⊎ ((other.route < one.route) × (start_from other one ≡ s))
start_cases one other s e = elim (chosen (nat_lt one.route other.route) (nat_lt other.route one.route) _ _ s e)
    as (λ _. ((one.route < other.route) × (start_from one other ≡ s)) ⊎ ((other.route < one.route) × (start_from other one ≡ s))) [
      | inl h ↦ inl (ltb-true one.route other.route h.0, h.1)
      | inr h ↦ inr (ltb-true other.route one.route h.0, h.1)
    ]

module _ (routes : List EdgeRuns) where
  -- a start at two stretches of runs that are companions
  at_runs : (k m i n : ℕ) → IsStart routes (record { a = k; b = i; first = m; b_first = n }) → Reaches (stretch_of routes k m) (stretch_of routes i n) × Reaches (stretch_of routes i n) (stretch_of routes k m)
  at_runs k m i n is =
      let r = run_at (route_at routes k).runs m in
      let q = run_at (route_at routes i).runs n in
      (reaches_of r q k m i n is.pair.companions, reaches_of q r i n k m (other_way r q is.pair.companions))

  reached : (one other : Stretch) → IsStretch routes one → IsStretch routes other → IsStart routes (start_from one other) → Reaches one other × Reaches other one
  reached one other is_one is_other is =
      subst (λ s. Reaches s other × Reaches other s) (sym is_one.is)
      (subst (λ t. Reaches (stretch_of routes one.route one.index) t × Reaches t (stretch_of routes one.route one.index)) (sym is_other.is)
      (at_runs one.route one.index other.route other.index is))

  -- where a path begins at two stretches, the one reaches the other
  pub start_reaches : (one other : Stretch) (s : Start) → IsStretch routes one → IsStretch routes other → start_of one other ≡ Some s → IsStart routes s → Reaches one other
  start_reaches one other s is_one is_other e is = elim (start_cases one other s e) as (λ _. Reaches one other) [
    | inl h ↦ (reached one other is_one is_other (subst (IsStart routes) (sym h.1) is)).0
    | inr h ↦ (reached other one is_other is_one (subst (IsStart routes) (sym h.1) is)).1
  ]

  -- so where it does not reach the other, no path begins at it and one that begins no earlier than the other
  pub none_after : (one other later : Stretch) (s : Start) → IsStretch routes one → IsStretch routes later → BeginsFirst one other → BeginsFirst other later →
      (Reaches one other → ⊥) → start_of one later ≡ Some s → IsStart routes s → ⊥
  none_after one other later s is_one is_later first next apart e is =
      let reach = start_reaches one later s is_one is_later e is in
      let same = between one other later first next reach.0 in
      let low : other.lo ≤ℤ later.lo = next.lo (sym same ∙ reach.0) in
      let there : later.lo <ℤ one.hi = reach.1 in
      apart (same, omega (arith, ints, low, there))

  -- the runs of the two stretches are companions
  companions_at : (one other : Stretch) → AreRoutes routes → IsStretch routes one → IsStretch routes other → BeginsFirst one other → Reaches one other →
      AreCompanions (run_at (route_at routes one.route).runs one.index) (run_at (route_at routes other.route).runs other.index)
  companions_at one other are is_one is_other first reach =
      let r = run_at (route_at routes one.route).runs one.index in
      let q = run_at (route_at routes other.route).runs other.index in
      companions_of r q one.route one.index other.route other.index
      (subst (λ t. BeginsFirst (stretch_of routes one.route one.index) t) is_other.is (subst (λ s. BeginsFirst s other) is_one.is first))
      (subst (λ t. Reaches (stretch_of routes one.route one.index) t) is_other.is (subst (λ s. Reaches s other) is_one.is reach))
      ((are.each other.route no_route is_other.of_route).long other.index no_run is_other.of_run)

  -- a path begins there where the pair does not go on back
  pub begins_there : (one other : Stretch) (s : Start) → AreRoutes routes → IsStretch routes one → IsStretch routes other → BeginsFirst one other → Reaches one other → start_of one other ≡ Some s →
      (GoesOn (route_at routes s.a).runs (route_at routes s.b).runs false (pair_of s) → ⊥) → IsStart routes s
  begins_there one other s are is_one is_other first reach e stop =
      let c = companions_at one other are is_one is_other first reach in
      elim (start_cases one other s e) as (λ _. IsStart routes s) [
        | inl h ↦ subst (IsStart routes) h.1 (record {
          earlier = h.0;
          within = is_other.of_route;
          pair = record { of_a = is_one.of_run; of_b = is_other.of_run; companions = c };
          begins = subst (λ (t : Start). GoesOn (route_at routes t.a).runs (route_at routes t.b).runs false (pair_of t) → ⊥) (sym h.1) stop;
        })
        | inr h ↦ subst (IsStart routes) h.1 (record {
          earlier = h.0;
          within = is_one.of_route;
          pair = record { of_a = is_other.of_run; of_b = is_one.of_run; companions = other_way _ _ c };
          begins = subst (λ (t : Start). GoesOn (route_at routes t.a).runs (route_at routes t.b).runs false (pair_of t) → ⊥) (sym h.1) stop;
        })
      ]

  -- both routes of a start at two stretches are there
  pub routes_there : (one other : Stretch) (s : Start) → IsStretch routes one → IsStretch routes other → start_of one other ≡ Some s →
      (s.a < length routes) × (s.b < length routes) × (s.first < length (route_at routes s.a).runs) × (s.b_first < length (route_at routes s.b).runs)
  routes_there one other s is_one is_other e = elim (start_cases one other s e)
      as (λ _. (s.a < length routes) × (s.b < length routes) × (s.first < length (route_at routes s.a).runs) × (s.b_first < length (route_at routes s.b).runs)) [
        | inl h ↦ subst (λ (t : Start). (t.a < length routes) × (t.b < length routes) × (t.first < length (route_at routes t.a).runs) × (t.b_first < length (route_at routes t.b).runs)) h.1
            (is_one.of_route, is_other.of_route, is_one.of_run, is_other.of_run)
        | inr h ↦ subst (λ (t : Start). (t.a < length routes) × (t.b < length routes) × (t.first < length (route_at routes t.a).runs) × (t.b_first < length (route_at routes t.b).runs)) h.1
            (is_other.of_route, is_one.of_route, is_other.of_run, is_one.of_run)
      ]

-- the order of starts
abbrev pub start_cmp : Start → Start → Ordering
start_cmp s t =
    ordering_then (nat_cmp s.a t.a)
    (ordering_then (nat_cmp s.b t.b)
    (ordering_then (nat_cmp s.first t.first)
    (nat_cmp s.b_first t.b_first)))

both_equal : (o p : Ordering) → ordering_then o p ≡ Equal → (o ≡ Equal) × (p ≡ Equal)
both_equal Less p e = cc
both_equal Equal p e = (refl, e)
both_equal Greater p e = cc

-- starts that tie are one
pub exact_start : (s t : Start) → start_cmp s t ≡ Equal → s ≡ t
exact_start s t e =
    let one = both_equal (nat_cmp s.a t.a) _ e in
    let two = both_equal (nat_cmp s.b t.b) _ one.1 in
    let three = both_equal (nat_cmp s.first t.first) _ two.1 in
    let a = exact_unsigned s.a t.a one.0 in
    let b = exact_unsigned s.b t.b two.0 in
    let first = exact_unsigned s.first t.first three.0 in
    let b_first = exact_unsigned s.b_first t.b_first three.1 in
    λ i. record { a = a i; b = b i; first = first i; b_first = b_first i }

pub in_cons : {X : Type 0} (x : X) (xs : List X) (y : X) → Contains (x ∷ xs) y → (x ≡ y) ⊎ Contains xs y
in_cons x xs y (zero, l, at) = inl at
in_cons x xs y (suc k, l, at) = inr (k, omega arith, at)

pub behind_first : {X : Type 0} (x : X) (xs : List X) (y : X) → Contains xs y → Contains (x ∷ xs) y
behind_first x xs y (k, l, at) = (suc k, omega arith, at)

-- one more key stands in its place among the others
module _ {X : Type 0} (cmp : X → X → Ordering) (exact : (x y : X) → cmp x y ≡ Equal → x ≡ y) (new q : X) where
  at_head : (x : X) (xs : List X) → x ≡ q → Contains (x ∷ xs) q
  at_head x xs e = (0, omega arith, e)

  step : (o : Ordering) (x : X) (xs rest : List X) → (o ≡ Equal → new ≡ x) → ((new ≡ q) ⊎ Contains xs q → Contains rest q) → (new ≡ q) ⊎ Contains (x ∷ xs) q →
      Contains (match_ordering o (new ∷ x ∷ xs) (x ∷ xs) (x ∷ rest)) q
  step Less x xs rest tie more (inl e) = at_head new (x ∷ xs) e
  step Less x xs rest tie more (inr h) = behind_first new (x ∷ xs) q h
  step Equal x xs rest tie more (inl e) = at_head x xs (sym (tie refl) ∙ e)
  step Equal x xs rest tie more (inr h) = h
  step Greater x xs rest tie more (inl e) = behind_first x rest q (more (inl e))
  step Greater x xs rest tie more (inr h) = elim (in_cons x xs q h) as (λ _. Contains (x ∷ rest) q) [
    | inl e ↦ at_head x rest e
    | inr g ↦ behind_first x rest q (more (inr g))
  ]

  pub in_inserted : (keys : List X) → (new ≡ q) ⊎ Contains keys q → Contains (insert_key cmp keys new) q
  in_inserted [] (inl e) = at_head new [] e
  in_inserted [] (inr (k, l, at)) = absurd (omega arith)
  in_inserted (x ∷ xs) h = step (cmp new x) x xs (insert_key cmp xs new) (exact new x) (in_inserted xs) h

-- the starts at the one stretch and one of the first later ones are added
pub record AreAdded (routes : List EdgeRuns) (one : Stretch) (later : List Stretch) (count : ℕ) (was found : List Start) : Type 0 where
  pub each : All (IsStart routes) found
  pub kept : (s : Start) → Contains was s → Contains found s
  pub all : (s : Start) (j : ℕ) (x : Stretch) → j < count → j < length later → get_or later j x ≡ x → start_of one x ≡ Some s → IsStart routes s → Contains found s

-- the starts at one of the first stretches and a later one are found
pub record AreStartsAt (routes : List EdgeRuns) (stretches : List Stretch) (count : ℕ) (found : List Start) : Type 0 where
  pub each : All (IsStart routes) found
  pub all : (s : Start) (i : ℕ) (x y : Stretch) → i < count → i < length stretches → get_or stretches i x ≡ x → Contains (drop (i + 1) stretches) y →
      start_of x y ≡ Some s → IsStart routes s → Contains found s

-- where the one stretch does not reach a later one, no path begins at it and that one or one after
pub stop_here : (routes : List EdgeRuns) (one : Stretch) (later : List Stretch) (i : ℕ) (d : Stretch) → IsStretch routes one → All (IsStretch routes) later → AllPairs BeginsFirst (one ∷ later) →
    i < length later → (Reaches one (get_or later i d) → ⊥) → (s : Start) (j : ℕ) (x : Stretch) → i ≤ j → j < length later → get_or later j x ≡ x → start_of one x ≡ Some s → IsStart routes s → ⊥
stop_here routes one later i d is_one are order l apart s j x low h at e is =
    let other = get_or later i d in
    let is_x : IsStretch routes x = subst (IsStretch routes) at (are j x h) in
    elim (cases_lt i j) as (λ _. ⊥) [
      | inl before ↦
          let first : BeginsFirst one other = order 0 (suc i) d (omega arith) (omega arith) in
          let there : BeginsFirst (get_or later i x) (get_or later j x) = order (suc i) (suc j) x (omega arith) (omega arith) in
          let next : BeginsFirst other x = subst (BeginsFirst other) at (subst (λ o. BeginsFirst o (get_or later j x)) (any_default later i x d l) there) in
          none_after routes one other x s is_one is_x first next apart e is
      | inr same ↦
          let k : j ≡ i = omega arith in
          let here : x ≡ other = sym at ∙ ap (λ n. get_or later n x) k ∙ any_default later i x d l in
          apart (subst (Reaches one) here (start_reaches routes one x s is_one is_x e is))
    ]

-- the starts at one more later stretch are added
pub one_more : (routes : List EdgeRuns) (one : Stretch) (later : List Stretch) (i : ℕ) (d : Stretch) (was found new : List Start) → i < length later →
    All (IsStart routes) new → ((s : Start) → Contains found s → Contains new s) → ((s : Start) → start_of one (get_or later i d) ≡ Some s → IsStart routes s → Contains new s) →
    AreAdded routes one later i was found → AreAdded routes one later (i + 1) was new
one_more routes one later i d was found new l each kept here so = record {
  each = each;
  kept = λ s has. kept s (so.kept s has);
  all = λ s j x b h at e is. elim (below_or_at j i b) as (λ _. Contains new s) [
    | inl below ↦ kept s (so.all s j x below h at e is)
    | inr same ↦
        let there : x ≡ get_or later i d = sym at ∙ ap (λ n. get_or later n x) same ∙ any_default later i x d l in
        here s (subst (λ y. start_of one y ≡ Some s) there e) is
  ];
}

-- the rest of a list, as a slice of it
pub rest_of_list : {X : Type 0} (xs : List X) (n : ℕ) → take (length xs - n) (drop n xs) ≡ drop n xs
rest_of_list xs n = take_all (length xs - n) (drop n xs) (omega (arith, length-drop n xs))

-- a stretch and those after it are in order
pub rest_in_order : (xs : List Stretch) (p : ℕ) (d : Stretch) → p < length xs → AllPairs BeginsFirst xs → AllPairs BeginsFirst (get_or xs p d ∷ take (length xs - (p + 1)) (drop (p + 1) xs))
rest_in_order xs p d l order =
    let from : AllPairs BeginsFirst (drop p xs) = λ i j e h g. (
    let long = length-drop p xs in
    let here : BeginsFirst (get_or xs (p + i) e) (get_or xs (p + j) e) = order (p + i) (p + j) e (omega arith) (omega (arith, long)) in
    subst (λ s. BeginsFirst s (get_or (drop p xs) j e)) (sym (get_or-drop p xs i e)) (subst (BeginsFirst (get_or xs (p + i) e)) (sym (get_or-drop p xs j e)) here)
    ) in
    subst (AllPairs BeginsFirst) (drop_more xs p d l ∙ ap (λ rest. get_or xs p d ∷ rest) (sym (rest_of_list xs (p + 1)))) from

-- the starts at one more stretch and those after it are found
pub one_more_place : (routes : List EdgeRuns) (xs : List Stretch) (p : ℕ) (d : Stretch) (found new : List Start) → p < length xs →
    All (IsStart routes) new → ((s : Start) → Contains found s → Contains new s) →
    ((s : Start) (y : Stretch) → Contains (take (length xs - (p + 1)) (drop (p + 1) xs)) y → start_of (get_or xs p d) y ≡ Some s → IsStart routes s → Contains new s) →
    AreStartsAt routes xs p found → AreStartsAt routes xs (p + 1) new
one_more_place routes xs p d found new l each kept here so = record {
  each = each;
  all = λ s i x y b h at has e is. elim (below_or_at i p b) as (λ _. Contains new s) [
    | inl below ↦ kept s (so.all s i x y below h at has e is)
    | inr same ↦
        let there : x ≡ get_or xs p d = sym at ∙ ap (λ n. get_or xs n x) same ∙ any_default xs p x d l in
        here s y (subst (λ zs. Contains zs y) (sym (rest_of_list xs (p + 1))) (subst (λ n. Contains (drop (n + 1) xs) y) same has)) (subst (λ z. start_of z y ≡ Some s) there e) is
  ];
}

in_rest : (xs : List Stretch) (i j : ℕ) (y : Stretch) → i < j → j < length xs → get_or xs j y ≡ y → Contains (drop (i + 1) xs) y
in_rest xs i j y l h at =
    let k : i + 1 + (j - (i + 1)) ≡ j = omega arith in
    (j - (i + 1), omega (arith, length-drop (i + 1) xs), get_or-drop (i + 1) xs (j - (i + 1)) y ∙ ap (λ n. get_or xs n y) k ∙ at)

start_of_first : (one other : Stretch) → one.route < other.route → start_of one other ≡ Some (start_from one other)
start_of_first one other l = ap (λ b. if b then Some (start_from one other) else (if nat_lt other.route one.route then Some (start_from other one) else None)) (lt-ltb one.route other.route l)

start_of_last : (one other : Stretch) → one.route < other.route → start_of other one ≡ Some (start_from one other)
start_of_last one other l =
    ap (λ b. if b then Some (start_from other one) else (if nat_lt one.route other.route then Some (start_from one other) else None)) (le-ltb other.route one.route (omega arith))
    ∙ ap (λ b. if b then Some (start_from one other) else None) (lt-ltb one.route other.route l)

-- the starts at any two of the stretches are found
abbrev pub StartAtTwo : List EdgeRuns → List Stretch → List Start → Type 0
StartAtTwo routes xs found =
    (s : Start) (i : ℕ) (x y : Stretch) → i < length xs → get_or xs i x ≡ x → Contains (drop (i + 1) xs) y → start_of x y ≡ Some s → IsStart routes s → Contains found s

-- each start is found where all stretches are there, and the starts at any two
pub all_found : (routes : List EdgeRuns) (xs : List Stretch) (found : List Start) →
    ((k m : ℕ) → k < length routes → m < length (route_at routes k).runs → Contains xs (stretch_of routes k m)) →
    StartAtTwo routes xs found → (s : Start) → IsStart routes s → Contains found s
all_found routes xs found there starts s is =
    let x = stretch_of routes s.a s.first in
    let y = stretch_of routes s.b s.b_first in
    let one : Contains xs x = there s.a s.first (omega (arith, is.earlier, is.within)) is.pair.of_a in
    let two : Contains xs y = there s.b s.b_first is.within is.pair.of_b in
    let i = one.0 in
    let j = two.0 in
    elim (cases_lt i j) as (λ _. Contains found s) [
      | inl before ↦ starts s i x y one.1 one.2 (in_rest xs i j y before two.1 two.2) (start_of_first x y is.earlier) is
      | inr h ↦ (elim (cases_lt j i) as (λ _. Contains found s) [
        | inl after ↦ starts s j y x two.1 two.2 (in_rest xs j i x after one.1 one.2) (start_of_last x y is.earlier) is
        | inr k ↦
            let same : i ≡ j = omega arith in
            let at : x ≡ y = sym one.2 ∙ ap (λ n. get_or xs n x) same ∙ any_default xs j x y two.1 ∙ two.2 in
            let routes_same : s.a ≡ s.b = ap (λ (t : Stretch). t.route) at in
            absurd (omega (arith, routes_same, is.earlier))
      ])
    ]
