-- The paths from all starts are all shared paths.
use Rattle.std.proofs.Common.{◌≡◌, ◌⊎◌, ℕ, ◌<◌, false, List, [], ◌∷◌, ◌++◌, length, map, All, inl, inr, refl, sym, ap, ◌∙◌, subst, arith}
use Rattle.std.specs.Prelude.{AllPairs, Contains}
use Rattle.std.specs.List.{AllZip}
use Rattle.std.specs.List.Sorted.{IsStrictlySortedBy}
use Rattle.std.specs.declared.cmp.Ordering.{Ordering}
use Rattle.std.specs.declared.cmp.Ordering.TheVariants.{Less, Equal, Greater}
use Rattle.std.specs.Ordering.{nat_cmp, ordering_then}
use Rattle.std.proofs.lemmas.Cmp.{by_ranked, ranked}
use Rattle.std.proofs.lemmas.List.Elements.{All-cons, All-from_recursion, All-head, All-nil, All-tail, All-weaker}
use Rattle.std.proofs.lemmas.List.Kept.{AllPairs-cons}
use Rattle.std.proofs.lemmas.Map.Keys.{sorted_head, sorted_tail}
use Rattle.std.proofs.lemmas.Map.Lookups.{exact_unsigned}
use Rattle.segment_order.specs.declared.run.Run.{Run}
use Rattle.shared_paths.specs.declared.path.EdgeRuns.{EdgeRuns}
use Rattle.shared_paths.specs.declared.path.SharedPath.{SharedPath}
use Rattle.shared_paths.specs.declared.start.Start.{Start}
use Rattle.shared_paths.specs.Pairs.{Pair, next_pair}
use Rattle.shared_paths.specs.Paths.{RunOn}
use Rattle.shared_paths.specs.Listed.{AreRoutes, AreSharedPaths, IsPairedPath, KeepsItsSide, PairedPath, StandsBefore, no_route, path_of, route_at}
use Rattle.shared_paths.specs.Starts.{IsPathFrom, IsStart, paired_from}
use Rattle.shared_paths.proofs.AlongPaths.Begins.{some_route}
use Rattle.shared_paths.proofs.AlongPaths.Sides.{keep_sides}
use Rattle.shared_paths.proofs.AllPaths.Starting.{behind_first, in_cons, start_cmp}
use Rattle.shared_paths.proofs.AlongPaths.Steps.{goes_back}

first_or_next : (o p : Ordering) → ordering_then o p ≡ Less → (o ≡ Less) ⊎ ((o ≡ Equal) × (p ≡ Less))
first_or_next Less p e = inl refl
first_or_next Equal p e = inr (refl, e)
first_or_next Greater p e = cc

less : (m n : ℕ) → nat_cmp m n ≡ Less → m < n
less m n e = by_ranked (m < n) (m ≡ n) (n < m) (nat_cmp m n) (ranked m n _ refl) (λ o h. h) (λ o h. (let x : Equal ≡ Less = sym o ∙ e in cc)) (λ o h. (let x : Greater ≡ Less = sym o ∙ e in cc))

-- the paths stand in the order of their starts
stands_before : (s t : Start) (ps qs : List Pair) → start_cmp s t ≡ Less → StandsBefore (paired_from s ps) (paired_from t qs)
stands_before s t ps qs e = elim (first_or_next (nat_cmp s.a t.a) _ e) as (λ _. StandsBefore (paired_from s ps) (paired_from t qs)) [
  | inl l ↦ inl (less s.a t.a l)
  | inr h ↦ inr (
    exact_unsigned s.a t.a h.0,
    elim (first_or_next (nat_cmp s.b t.b) _ h.1) as (λ _. (s.b < t.b) ⊎ ((s.b ≡ t.b) × ((s.first < t.first) ⊎ ((s.first ≡ t.first) × (s.b_first < t.b_first))))) [
      | inl l ↦ inl (less s.b t.b l)
      | inr g ↦ inr (
        exact_unsigned s.b t.b g.0,
        elim (first_or_next (nat_cmp s.first t.first) _ g.1) as (λ _. (s.first < t.first) ⊎ ((s.first ≡ t.first) × (s.b_first < t.b_first))) [
          | inl l ↦ inl (less s.first t.first l)
          | inr f ↦ inr (exact_unsigned s.first t.first f.0, less s.b_first t.b_first f.1)
        ],
      )
    ],
  )
]

-- from one pair the routes run on in one way
run_once : (a b : List Run) (p : Pair) (ps qs : List Pair) → RunOn a b p ps → RunOn a b p qs → ps ≡ qs
run_once a b p [] [] one other = refl
run_once a b p [] (q ∷ qs) one other = absurd (one other.0)
run_once a b p (r ∷ rs) [] one other = absurd (other one.0)
run_once a b p (r ∷ rs) (q ∷ qs) one other =
    let same : q ≡ r = other.1 ∙ sym one.1 in
    let rest = run_once a b r rs qs one.2 (subst (λ x. RunOn a b x qs) same other.2) in
    ap (λ xs. r ∷ xs) rest ∙ ap (λ x. x ∷ qs) (sym same)

pub zip_push : {X Y : Type 0} (R : X → Y → Type 0) (xs : List X) (ys : List Y) (x : X) (y : Y) → AllZip R xs ys → R x y → AllZip R (xs ++ x ∷ []) (ys ++ y ∷ [])
zip_push R [] [] x y zip holds = (holds, tt)
zip_push R [] (b ∷ ys) x y zip holds = absurd zip
zip_push R (a ∷ xs) [] x y zip holds = absurd zip
zip_push R (a ∷ xs) (b ∷ ys) x y zip holds = (zip.0, zip_push R xs ys x y zip.1 holds)

module _ (routes : List EdgeRuns) where
  -- the paths by their pairs
  abbrev pub gathered : (starts : List Start) (paths : List SharedPath) → AllZip (IsPathFrom routes) starts paths → List PairedPath
  gathered [] [] zip = []
  gathered [] (p ∷ paths) zip = absurd zip
  gathered (s ∷ starts) [] zip = absurd zip
  gathered (s ∷ starts) (p ∷ paths) zip = paired_from s zip.0.others ∷ gathered starts paths zip.1

  are_paths : (starts : List Start) (paths : List SharedPath) (zip : AllZip (IsPathFrom routes) starts paths) → paths ≡ map (path_of routes) (gathered starts paths zip)
  are_paths [] [] zip = refl
  are_paths [] (p ∷ paths) zip = absurd zip
  are_paths (s ∷ starts) [] zip = absurd zip
  are_paths (s ∷ starts) (p ∷ paths) zip =
      ap (λ x. x ∷ paths) zip.0.is ∙ ap (λ xs. path_of routes (paired_from s zip.0.others) ∷ xs) (are_paths starts paths zip.1)

  each_paired : (starts : List Start) (paths : List SharedPath) (zip : AllZip (IsPathFrom routes) starts paths) → All (IsPairedPath routes) (gathered starts paths zip)
  each_paired [] [] zip = All-nil (IsPairedPath routes)
  each_paired [] (p ∷ paths) zip = absurd zip
  each_paired (s ∷ starts) [] zip = absurd zip
  each_paired (s ∷ starts) (p ∷ paths) zip = All-cons (IsPairedPath routes) (paired_from s zip.0.others) (gathered starts paths zip.1) zip.0.paired (each_paired starts paths zip.1)

  all_behind : (s : Start) (ps : List Pair) (starts : List Start) (paths : List SharedPath) (zip : AllZip (IsPathFrom routes) starts paths) →
      All (λ t. start_cmp s t ≡ Less) starts → All (StandsBefore (paired_from s ps)) (gathered starts paths zip)
  all_behind s ps [] [] zip less = All-nil (StandsBefore (paired_from s ps))
  all_behind s ps [] (p ∷ paths) zip less = absurd zip
  all_behind s ps (t ∷ starts) [] zip less = absurd zip
  all_behind s ps (t ∷ starts) (p ∷ paths) zip less =
      All-cons (StandsBefore (paired_from s ps)) (paired_from t zip.0.others) (gathered starts paths zip.1)
      (stands_before s t ps zip.0.others (All-head (λ u. start_cmp s u ≡ Less) t starts less))
      (all_behind s ps starts paths zip.1 (All-tail (λ u. start_cmp s u ≡ Less) t starts less))

  in_order : (starts : List Start) (paths : List SharedPath) (zip : AllZip (IsPathFrom routes) starts paths) → IsStrictlySortedBy start_cmp starts → AllPairs StandsBefore (gathered starts paths zip)
  in_order [] [] zip sorted = λ i j d l h. absurd (omega arith)
  in_order [] (p ∷ paths) zip sorted = absurd zip
  in_order (s ∷ starts) [] zip sorted = absurd zip
  in_order (s ∷ starts) (p ∷ paths) zip sorted =
      AllPairs-cons StandsBefore (paired_from s zip.0.others) (gathered starts paths zip.1)
      (all_behind s zip.0.others starts paths zip.1 (All-from_recursion (λ t. start_cmp s t ≡ Less) starts (sorted_head start_cmp s starts sorted)))
      (in_order starts paths zip.1 (sorted_tail start_cmp s starts sorted))

  -- the path from a start
  record HasPath (s : Start) (paired : List PairedPath) : Type 0 where
    others : List Pair
    is : IsPairedPath routes (paired_from s others)
    there : Contains paired (paired_from s others)

  path_there : (s : Start) (starts : List Start) (paths : List SharedPath) (zip : AllZip (IsPathFrom routes) starts paths) → Contains starts s → HasPath s (gathered starts paths zip)
  path_there s [] [] zip has = absurd (omega (arith, has.1))
  path_there s [] (p ∷ paths) zip has = absurd zip
  path_there s (t ∷ starts) [] zip has = absurd zip
  path_there s (t ∷ starts) (p ∷ paths) zip has = elim (in_cons t starts s has) as (λ _. HasPath s (gathered (t ∷ starts) (p ∷ paths) zip)) [
    | inl e ↦ subst (λ u. HasPath u (gathered (t ∷ starts) (p ∷ paths) zip)) e (record { others = zip.0.others; is = zip.0.paired; there = (0, omega arith, refl) })
    | inr h ↦
        let rest = path_there s starts paths zip.1 h in
        record { others = rest.others; is = rest.is; there = behind_first (paired_from t zip.0.others) (gathered starts paths zip.1) (paired_from s rest.others) rest.there }
  ]

  -- a shared path begins at a start
  start_of_path : AreRoutes routes → (p : PairedPath) → IsPairedPath routes p → IsStart routes (record { a = p.one; b = p.other; first = p.first.a; b_first = p.first.b })
  start_of_path are p is =
      let a = (route_at routes p.one).runs in
      let b = (route_at routes p.other).runs in
      let one = some_route routes are p.one (omega (arith, is.earlier, is.within)) in
      let two = some_route routes are p.other is.within in
      record {
        earlier = is.earlier;
        within = is.within;
        pair = is.shared.first_is;
        begins = λ goes. (let it = goes_back one.0 two.0 a b one.1 two.1 p.first is.shared.first_is goes in is.shared.begins (next_pair a b false p.first) it.pair it.goes it.returns);
      }

  all_there : AreRoutes routes → (starts : List Start) (paths : List SharedPath) (zip : AllZip (IsPathFrom routes) starts paths) → ((s : Start) → IsStart routes s → Contains starts s) →
      (p : PairedPath) → IsPairedPath routes p → Contains (gathered starts paths zip) p
  all_there are starts paths zip all p is =
      let s : Start = record { a = p.one; b = p.other; first = p.first.a; b_first = p.first.b } in
      let path = path_there s starts paths zip (all s (start_of_path are p is)) in
      let same = run_once (route_at routes p.one).runs (route_at routes p.other).runs p.first path.others p.others path.is.shared.runs_on is.shared.runs_on in
      subst (λ ps. Contains (gathered starts paths zip) (record { one = p.one; other = p.other; first = p.first; others = ps })) same path.there

  -- the paths from all starts in order are the shared paths
  pub are_shared_paths : AreRoutes routes → (starts : List Start) (paths : List SharedPath) → IsStrictlySortedBy start_cmp starts →
      ((s : Start) → IsStart routes s → Contains starts s) → AllZip (IsPathFrom routes) starts paths → AreSharedPaths routes paths
  are_shared_paths are starts paths sorted all zip = record {
    paired = gathered starts paths zip;
    in_order = in_order starts paths zip sorted;
    each = each_paired starts paths zip;
    all = all_there are starts paths zip all;
    are_paths = are_paths starts paths zip;
  }

  keeps : AreRoutes routes → (p : PairedPath) → IsPairedPath routes p → KeepsItsSide routes p
  keeps are p is = λ side sided.
      let in_one : p.one < length routes = omega (arith, is.earlier, is.within) in
      keep_sides (route_at routes p.one).edge (route_at routes p.other).edge (route_at routes p.one).runs (route_at routes p.other).runs p.first p.others side
      (are.each p.one no_route in_one) (are.each p.other no_route is.within) (are.edges p.one p.other no_route is.earlier is.within) is.shared sided

  -- each keeps its side
  pub all_keep : AreRoutes routes → (paths : List SharedPath) (are : AreSharedPaths routes paths) → All (KeepsItsSide routes) are.paired
  all_keep routes_are paths are = All-weaker (IsPairedPath routes) (KeepsItsSide routes) (keeps routes_are) are.paired are.each
