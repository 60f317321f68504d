-- All runs of a way with their limits, in their order.
use Rattle.std.proofs.Common.{◌≡◌, ◌↔◌, inl, inr, zero, suc, ◌+◌, ◌-◌, Bool, true, false, List, [], ◌∷◌, map, get_or, refl, sym, ap, ◌∙◌, subst, arith}
use Rattle.std.specs.Prelude.{All, IsTrue, if◌then◌else◌}
use Rattle.std.specs.Cmp.{IsTotalOrder}
use Rattle.std.specs.List.{AllZip}
use Rattle.std.specs.List.Sorted.{IsPermutation, IsSortedBy}
use Rattle.std.specs.Ordering.{is_lt, match_ordering, ordering_reverse}
use Rattle.std.specs.declared.cmp.Ordering.{Ordering}
use Rattle.std.specs.declared.cmp.Ordering.TheVariants.{Less, Equal, Greater}
use Rattle.std.proofs.lemmas.Bool.{cases_Bool}
use Rattle.std.proofs.lemmas.Cmp.{on_total}
use Rattle.std.proofs.lemmas.List.Elements.{All-append, All-cons, All-contains, All-map, All-nil, All-same, recursion_from_All}
use Rattle.std.proofs.lemmas.List.Sorted.{All-permutation, IsPermutation-cons, IsPermutation-map, IsPermutation-middle, IsPermutation-refl, IsPermutation-trans}
use Rattle.plane_geom.specs.declared.point.Way.{Way}
use Rattle.plane_geom.specs.declared.rect.Solid.{Solid}
use Rattle.segment_order.specs.declared.run.Run.{Run}
use Rattle.segment_order.specs.Order.{Key, compare_keys, key_of}
use Rattle.segment_order.specs.Run.{run_at}
use Rattle.segment_order.proofs.OneOrder.{keys_total}
use Rattle.channel_bundles.specs.declared.route.PhaseRoute.{PhaseRoute}
use Rattle.channel_bundles.specs.Route.{IsFixed, IsPhaseRoute, is_way, of_way, runs_of_way}
use Rattle.channel_bundles.specs.Limits.{MayMove, MayStandAt}
use Rattle.channel_bundles.specs.Bundles.{AreInOrder, IsStanding, Standing}
use Rattle.nudge_phases.proofs.MovedRuns.Bundled.{IsRunOf, are_runs_of}
use Rattle.nudge_phases.proofs.EachPhase.Solvable.{own_way}
use Rattle.existence_laws.proofs.Answering.Answered.{partners}
use Rattle.existence_laws.proofs.Nudging.Limits.{fixed_decided, some_limits}

-- ---- putting in order

module _ {X : Type 0} (cmp : X → X → Ordering) (total : IsTotalOrder cmp) where
  abbrev lt : X → X → Bool
  lt x y = is_lt (cmp x y)

  -- the element before the first one that is greater
  abbrev insert : X → List X → List X
  insert x [] = x ∷ []
  insert x (y ∷ ys) = match_ordering (cmp x y) (x ∷ y ∷ ys) (x ∷ y ∷ ys) (y ∷ insert x ys)

  inserted : (x y : X) (ys rest : List X) (o : Ordering) → IsPermutation (x ∷ ys) rest → IsPermutation (x ∷ y ∷ ys) (match_ordering o (x ∷ y ∷ ys) (x ∷ y ∷ ys) (y ∷ rest))
  inserted x y ys rest Less so = IsPermutation-refl (x ∷ y ∷ ys)
  inserted x y ys rest Equal so = IsPermutation-refl (x ∷ y ∷ ys)
  inserted x y ys rest Greater so = IsPermutation-trans (x ∷ y ∷ ys) (y ∷ x ∷ ys) (y ∷ rest) (IsPermutation-middle (x ∷ []) y ys) (IsPermutation-cons y (x ∷ ys) rest so)

  all_inserted : (x : X) (ys : List X) → IsPermutation (x ∷ ys) (insert x ys)
  all_inserted x [] = IsPermutation-refl (x ∷ [])
  all_inserted x (y ∷ ys) = inserted x y ys (insert x ys) (cmp x y) (all_inserted x ys)

  after_first : (x y : X) (ys : List X) → lt y x ≡ false → IsSortedBy lt (y ∷ ys) → IsSortedBy lt (x ∷ y ∷ ys)
  after_first x y ys first sorted zero d low high = first
  after_first x y ys first sorted (suc k) d low high =
      subst (λ n. lt (get_or (x ∷ y ∷ ys) n d) (get_or (x ∷ y ∷ ys) (suc k) d) ≡ false) (let e : suc (k + 1) ≡ suc k + 1 = omega arith in e) (sorted k d (omega arith) (omega (arith, high)))

  one_sorted : (x : X) → IsSortedBy lt (x ∷ [])
  one_sorted x k d low high = absurd (omega (arith, high))

  rest_sorted : (x : X) (xs : List X) → IsSortedBy lt (x ∷ xs) → IsSortedBy lt xs
  rest_sorted x xs sorted k d low high =
      subst (λ n. lt (get_or (x ∷ xs) n d) (get_or (x ∷ xs) (suc k) d) ≡ false) (let e : suc k + 1 ≡ suc (k + 1) = omega arith in e) (sorted (suc k) d (omega arith) (omega (arith, high)))

  not_after : (x y : X) (o : Ordering) → cmp x y ≡ o → is_lt (ordering_reverse o) ≡ false → lt y x ≡ false
  not_after x y o e not = ap is_lt (total.antisymm y x ∙ ap ordering_reverse e) ∙ not

  -- behind a first element that is not greater
  placed : (y x z : X) (zs rest : List X) (o : Ordering) → cmp x z ≡ o → lt x y ≡ false → IsSortedBy lt (y ∷ z ∷ zs) → (lt x z ≡ false → IsSortedBy lt (z ∷ rest)) →
      IsSortedBy lt (y ∷ match_ordering o (x ∷ z ∷ zs) (x ∷ z ∷ zs) (z ∷ rest))
  placed y x z zs rest Less e first sorted on = after_first y x (z ∷ zs) first (after_first x z zs (not_after x z Less e refl) (rest_sorted y (z ∷ zs) sorted))
  placed y x z zs rest Equal e first sorted on = after_first y x (z ∷ zs) first (after_first x z zs (not_after x z Equal e refl) (rest_sorted y (z ∷ zs) sorted))
  placed y x z zs rest Greater e first sorted on = after_first y z rest (sorted 0 y (omega arith) (omega arith)) (on (ap is_lt e))

  behind : (y x : X) (ys : List X) → lt x y ≡ false → IsSortedBy lt (y ∷ ys) → IsSortedBy lt (y ∷ insert x ys)
  behind y x [] first sorted = after_first y x [] first (one_sorted x)
  behind y x (z ∷ zs) first sorted = placed y x z zs (insert x zs) (cmp x z) refl first sorted (λ not. behind z x zs not (rest_sorted y (z ∷ zs) sorted))

  in_front : (x y : X) (ys rest : List X) (o : Ordering) → cmp x y ≡ o → IsSortedBy lt (y ∷ ys) → (lt x y ≡ false → IsSortedBy lt (y ∷ rest)) → IsSortedBy lt (match_ordering o (x ∷ y ∷ ys) (x ∷ y ∷ ys) (y ∷ rest))
  in_front x y ys rest Less e sorted on = after_first x y ys (not_after x y Less e refl) sorted
  in_front x y ys rest Equal e sorted on = after_first x y ys (not_after x y Equal e refl) sorted
  in_front x y ys rest Greater e sorted on = on (ap is_lt e)

  still_sorted : (x : X) (ys : List X) → IsSortedBy lt ys → IsSortedBy lt (insert x ys)
  still_sorted x [] sorted = one_sorted x
  still_sorted x (y ∷ ys) sorted = in_front x y ys (insert x ys) (cmp x y) refl sorted (λ not. behind y x ys not sorted)

  pub some_order : (xs : List X) → (ys : List X) × IsPermutation xs ys × IsSortedBy lt ys
  some_order [] = ([], IsPermutation-refl [], λ k d low high. absurd (omega (arith, high)))
  some_order (x ∷ xs) =
      let so = some_order xs in
      (insert x so.0, IsPermutation-trans (x ∷ xs) (x ∷ so.0) (insert x so.0) (IsPermutation-cons x xs so.0 so.1) (all_inserted x so.0), still_sorted x so.0 so.2)

-- ---- runs with their limits

abbrev flag : {P : Type 0} → Dec P → Bool
flag (yes p) = true
flag (no not) = false

flag_is : {P : Type 0} (d : Dec P) → IsTrue (flag d) ↔ P
flag_is (yes p) = (λ t. p, λ q. refl)
flag_is (no not) = (λ t. absurd (let e : false ≡ true = t in cc), λ p. absurd (not p))

own_runs : (way : Way) (runs : List Run) → All (λ (r : Run). r.way ≡ way) (of_way way runs)
own_runs way [] = All-nil (λ (r : Run). r.way ≡ way)
own_runs way (r ∷ rs) =
    let P = λ (s : Run). s.way ≡ way in
    elim (cases_Bool (is_way r.way way)) as (λ _. All P (of_way way (r ∷ rs))) [
      | inl own ↦ All-same P _ (r ∷ of_way way rs) (ap (λ b. if b then r ∷ of_way way rs else of_way way rs) own) (All-cons P r (of_way way rs) (own_way r.way way own) (own_runs way rs))
      | inr other ↦ All-same P _ (of_way way rs) (ap (λ b. if b then r ∷ of_way way rs else of_way way rs) other) (own_runs way rs)
    ]

all_own : (way : Way) (routes : List PhaseRoute) → All (λ (p : PhaseRoute × Run). p.1.way ≡ way) (runs_of_way way routes)
all_own way [] = All-nil (λ (p : PhaseRoute × Run). p.1.way ≡ way)
all_own way (route ∷ routes) =
    let P = λ (p : PhaseRoute × Run). p.1.way ≡ way in
    All-append P (map (λ (r : Run). (route, r)) (of_way way route.runs.items)) (runs_of_way way routes)
    (All-map P (λ (r : Run). (route, r)) (of_way way route.runs.items) (own_runs way route.runs.items)) (all_own way routes)

module _ (solids : List Solid) (routes : List PhaseRoute) (way : Way) (good : All IsPhaseRoute routes) (movable : All (MayMove solids way) routes) where
  abbrev pair_of : Standing → PhaseRoute × Run
  pair_of s = (s.route, s.member.run)

  -- the run with its limits
  abbrev HasStanding : PhaseRoute × Run → Standing → Type 0
  HasStanding p s = (pair_of s ≡ p) × IsStanding solids s

  some_standing : (p : PhaseRoute × Run) → IsRunOf routes p → p.1.way ≡ way → (s : Standing) × HasStanding p s
  some_standing p is own =
      let route = p.0 in
      let runs = route.runs.items in
      let k = p.1.place - 1 in
      let of_phase = All-contains IsPhaseRoute routes route good is.route in
      let index : k ≡ is.index = omega (arith, ap (λ (r : Run). r.place) (sym is.here) ∙ of_phase.runs.places is.index is.in_list) in
      let here : run_at runs k ≡ p.1 = ap (run_at runs) index ∙ is.here in
      let stays : (IsFixed route k → ⊥) → MayStandAt solids route k (run_at runs k).at =
      All-contains (MayMove solids way) routes route movable is.route k (omega (arith, index, is.in_list)) (ap (λ (r : Run). r.way) here ∙ own) in
      let fixed = fixed_decided route k in
      let limits = some_limits solids route k stays fixed in (
        record { route = route; member = record { run = p.1; fixed = flag fixed; low = limits.0; high = limits.1; weight = route.weight } },
        (refl {a = p}, record { fixed = flag_is fixed; limits = limits.2; weight = refl {a = route.weight} }),
      )

  some_standings : (sts : List Standing) × AllZip HasStanding (runs_of_way way routes) sts
  some_standings = partners HasStanding (runs_of_way way routes)
      (recursion_from_All (λ p. (s : Standing) × HasStanding p s) (runs_of_way way routes) (λ k d h. some_standing (get_or (runs_of_way way routes) k d) (are_runs_of way routes k d h) (all_own way routes k d h)))

  pairs_are : (ps : List (PhaseRoute × Run)) (sts : List Standing) → AllZip HasStanding ps sts → map pair_of sts ≡ ps
  pairs_are [] [] zip = refl
  pairs_are [] (s ∷ sts) zip = absurd zip
  pairs_are (p ∷ ps) [] zip = absurd zip
  pairs_are (p ∷ ps) (s ∷ sts) zip = λ i. zip.0.0 i ∷ pairs_are ps sts zip.1 i

  each_stands : (ps : List (PhaseRoute × Run)) (sts : List Standing) → AllZip HasStanding ps sts → All (IsStanding solids) sts
  each_stands [] [] zip = All-nil (IsStanding solids)
  each_stands [] (s ∷ sts) zip = absurd zip
  each_stands (p ∷ ps) [] zip = absurd zip
  each_stands (p ∷ ps) (s ∷ sts) zip = All-cons (IsStanding solids) s sts zip.0.1 (each_stands ps sts zip.1)

  abbrev key : Standing → Key
  key s = key_of s.route.runs.items s.member.run

  pub some_in_order : (all : List Standing) × AreInOrder solids routes way all
  some_in_order =
      let sts = some_standings in
      let ps = runs_of_way way routes in
      let order = some_order (λ (s t : Standing). compare_keys (key s) (key t)) (on_total key keys_total) sts.0 in (
        order.0,
        record {
          each = All-permutation (IsStanding solids) sts.0 order.0 order.1 (each_stands ps sts.0 sts.1);
          once = subst (λ xs. IsPermutation xs (map pair_of order.0)) (pairs_are ps sts.0 sts.1) (IsPermutation-map pair_of sts.0 order.0 order.1);
          sorted = order.2;
        },
      )
