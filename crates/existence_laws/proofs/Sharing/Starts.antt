-- It is decided whether a shared path begins at two runs, so all starts can be put in order.
use Rattle.std.proofs.Common.{◌≡◌, inl, inr, ℕ, zero, suc, Bool, List, [], ◌∷◌, length, All, refl, ap, ◌∙◌, arith}
use Rattle.std.specs.Prelude.{Contains}
use Rattle.std.specs.List.{AllByRecursion as Each}
use Rattle.std.specs.List.Sorted.{IsStrictlySortedBy}
use Rattle.std.specs.BTreeSet.{insert_key}
use Rattle.std.specs.Cmp.{IsTotalOrder}
use Rattle.std.specs.Ordering.{match_ordering, ordering_reverse}
use Rattle.std.specs.declared.cmp.Ordering.{Ordering}
use Rattle.std.specs.declared.cmp.Ordering.TheVariants.{Less, Equal, Greater}
use Rattle.std.proofs.lemmas.Cmp.{nat_cmp_total, on_total, then_total}
use Rattle.std.proofs.lemmas.List.Elements.{All-from_recursion, All-nil, recursion_from_All}
use Rattle.std.proofs.lemmas.Map.Views.{All-insert_key}
use Rattle.std.proofs.Math.Decide.{map_dec, dec_le}
use Rattle.std.proofs.Math.IntN.{ℤ_discrete}
use Rattle.plane_geom.specs.declared.point.Way.{Way}
use Rattle.plane_geom.specs.declared.point.Way.TheVariants.{Vertical, Horizontal}
use Rattle.segment_order.specs.declared.run.Run.{Run}
use Rattle.segment_order.specs.declared.ray.Entry.{Entry}
use Rattle.segment_order.specs.declared.ray.Entry.TheVariants.{Near, Stop, Far}
use Rattle.segment_order.specs.Run.{run_at}
use Rattle.scene_model.proofs.Editing.Entries.{each_weaker}
use Rattle.shared_paths.specs.declared.path.EdgeRuns.{EdgeRuns}
use Rattle.shared_paths.specs.Pairs.{AreCompanions, GoesOn, IsPair, Pair, first_entry, outward}
use Rattle.shared_paths.specs.Listed.{route_at}
use Rattle.shared_paths.specs.Starts.{IsStart, pair_of}
use Rattle.shared_paths.proofs.AllPaths.Starting.{exact_start, in_inserted, start_cmp}
use Rattle.existence_laws.proofs.Deciding.Decided.{both, denied, int_lt}
use Rattle.existence_laws.proofs.Deciding.Counting.{below, contains_below, each_below}

-- starts, whose type is private to their crate
abbrev argument : {A B : Type 0} → (A → B) → Type 0
argument {A} f = A

abbrev pub Start : Type 0
Start = argument pair_of

pub same_way : (v w : Way) → Dec (v ≡ w)
same_way Vertical Vertical = yes refl
same_way Vertical Horizontal = no (λ e. cc)
same_way Horizontal Vertical = no (λ e. cc)
same_way Horizontal Horizontal = yes refl

same_entry : (a b : Entry) → Dec (a ≡ b)
same_entry (Near p) (Near q) = map_dec (λ e. ap Near e) (λ e. cc) (ℤ_discrete p q)
same_entry (Near p) Stop = no (λ e. cc)
same_entry (Near p) (Far q) = no (λ e. cc)
same_entry Stop (Near q) = no (λ e. cc)
same_entry Stop Stop = yes refl
same_entry Stop (Far q) = no (λ e. cc)
same_entry (Far p) (Near q) = no (λ e. cc)
same_entry (Far p) Stop = no (λ e. cc)
same_entry (Far p) (Far q) = map_dec (λ e. ap Far e) (λ e. cc) (ℤ_discrete p q)

-- whether two routes go on from a pair
pub goes_decided : (a b : List Run) (ahead : Bool) (p : Pair) → Dec (GoesOn a b ahead p)
goes_decided a b ahead p = map_dec (λ h. record { same = h.0; turns = h.1 }) (λ g. (g.same, g.turns))
    (both (same_entry (first_entry a p.a (outward a ahead p)) (first_entry b p.b (outward a ahead p))) (denied (same_entry (first_entry a p.a (outward a ahead p)) Stop)))

companions_decided : (r s : Run) → Dec (AreCompanions r s)
companions_decided r s = map_dec (λ h. record { way = h.0.0; at = h.0.1; begins = h.1.0; ends = h.1.1 }) (λ c. ((c.way, c.at), (c.begins, c.ends)))
    (both (both (same_way r.way s.way) (ℤ_discrete r.at s.at)) (both (int_lt r.lo s.hi) (int_lt s.lo r.hi)))

pair_decided : (a b : List Run) (p : Pair) → Dec (IsPair a b p)
pair_decided a b p = map_dec (λ h. record { of_a = h.0.0; of_b = h.0.1; companions = h.1 }) (λ i. ((i.of_a, i.of_b), i.companions))
    (both (both (dec_le _ _) (dec_le _ _)) (companions_decided (run_at a p.a) (run_at b p.b)))

start_decided : (routes : List EdgeRuns) (s : Start) → Dec (IsStart routes s)
start_decided routes s = map_dec (λ h. record { earlier = h.0.0; within = h.0.1; pair = h.1.0; begins = h.1.1 }) (λ i. ((i.earlier, i.within), (i.pair, i.begins)))
    (both (both (dec_le _ _) (dec_le _ _)) (both (pair_decided _ _ (pair_of s)) (denied (goes_decided _ _ _ (pair_of s)))))

-- a new key in its place among others in order
module _ {K : Type 0} (cmp : K → K → Ordering) (total : IsTotalOrder cmp) where
  in_place : (k x : K) (xs : List K) (o : Ordering) → cmp k x ≡ o → IsStrictlySortedBy cmp (x ∷ xs) → IsStrictlySortedBy cmp (insert_key cmp xs k) →
      IsStrictlySortedBy cmp (match_ordering o (k ∷ x ∷ xs) (x ∷ xs) (x ∷ insert_key cmp xs k))
  unfolding IsStrictlySortedBy
  in_place k x xs Less e sorted rest = ((e, each_weaker (λ y. cmp x y ≡ Less) (λ y. cmp k y ≡ Less) (λ y l. total.trans k x y e l) xs sorted.0), sorted)
  in_place k x xs Equal e sorted rest = sorted
  in_place k x xs Greater e sorted rest = (
    recursion_from_All (λ y. cmp x y ≡ Less) (insert_key cmp xs k)
        (All-insert_key cmp k (λ y. cmp x y ≡ Less) xs (All-from_recursion (λ y. cmp x y ≡ Less) xs sorted.0) (total.antisymm x k ∙ ap ordering_reverse e)),
    rest,
  )

  inserted : (k : K) (ks : List K) → IsStrictlySortedBy cmp ks → IsStrictlySortedBy cmp (insert_key cmp ks k)
  unfolding IsStrictlySortedBy
  inserted k [] sorted = (tt, tt)
  inserted k (x ∷ xs) sorted = in_place k x xs (cmp k x) refl sorted (inserted k xs sorted.1)

  -- all keys of a list, in order
  abbrev pub in_order : List K → List K
  in_order [] = []
  in_order (k ∷ ks) = insert_key cmp (in_order ks) k

  pub are_in_order : (ks : List K) → IsStrictlySortedBy cmp (in_order ks)
  unfolding IsStrictlySortedBy
  are_in_order [] = tt
  are_in_order (k ∷ ks) = inserted k (in_order ks) (are_in_order ks)

  pub each_in_order : (P : K → Type 0) (ks : List K) → Each P ks → All P (in_order ks)
  each_in_order P [] each = All-nil P
  each_in_order P (k ∷ ks) each = All-insert_key cmp k P (in_order ks) (each_in_order P ks each.1) each.0

starts_total : IsTotalOrder start_cmp
starts_total =
    then_total (on_total (λ (s : Start). s.a) nat_cmp_total)
    (then_total (on_total (λ (s : Start). s.b) nat_cmp_total)
    (then_total (on_total (λ (s : Start). s.first) nat_cmp_total)
    (on_total (λ (s : Start). s.b_first) nat_cmp_total)))

there_in_order : (ks : List Start) (q : Start) → Contains ks q → Contains (in_order start_cmp starts_total ks) q
there_in_order [] q (j, l, at) = absurd (omega (arith, l))
there_in_order (k ∷ ks) q (zero, l, at) = in_inserted start_cmp exact_start k q (in_order start_cmp starts_total ks) (inl at)
there_in_order (k ∷ ks) q (suc j, l, at) = in_inserted start_cmp exact_start k q (in_order start_cmp starts_total ks) (inr (there_in_order ks q (j, omega (arith, l), at)))

module _ (routes : List EdgeRuns) where
  abbrev kept : (s : Start) → Dec (IsStart routes s) → List Start
  kept s (yes is) = s ∷ []
  kept s (no not) = []

  each_kept : (s : Start) (d : Dec (IsStart routes s)) → Each (IsStart routes) (kept s d)
  each_kept s (yes is) = (is, tt)
  each_kept s (no not) = tt

  is_kept : (s : Start) (d : Dec (IsStart routes s)) → IsStart routes s → Contains (kept s d) s
  is_kept s (yes is) start = (0, omega arith, refl)
  is_kept s (no not) start = absurd (not start)

  abbrev start_at : ℕ → ℕ → ℕ → ℕ → Start
  start_at a b m n = record { a = a; b = b; first = m; b_first = n }

  abbrev runs_of : ℕ → ℕ
  runs_of a = length (route_at routes a).runs

  abbrev in_run : ℕ → ℕ → ℕ → List Start
  in_run a b m = below (runs_of b) (λ n. kept (start_at a b m n) (start_decided routes (start_at a b m n)))

  abbrev in_routes : ℕ → ℕ → List Start
  in_routes a b = below (runs_of a) (in_run a b)

  abbrev in_route : ℕ → List Start
  in_route a = below (length routes) (in_routes a)

  abbrev listed : List Start
  listed = below (length routes) in_route

  each_listed : Each (IsStart routes) listed
  each_listed =
      each_below (IsStart routes) in_route (length routes)
      (λ a l. each_below (IsStart routes) (in_routes a) (length routes)
      (λ b l. each_below (IsStart routes) (in_run a b) (runs_of a)
      (λ m l. each_below (IsStart routes) (λ n. kept (start_at a b m n) (start_decided routes (start_at a b m n))) (runs_of b)
      (λ n l. each_kept (start_at a b m n) (start_decided routes (start_at a b m n))))))

  is_listed : (s : Start) → IsStart routes s → Contains listed s
  is_listed s is =
      contains_below in_route (length routes) s.a s (omega (arith, is.earlier, is.within))
      (contains_below (in_routes s.a) (length routes) s.b s is.within
      (contains_below (in_run s.a s.b) (runs_of s.a) s.first s is.pair.of_a
      (contains_below (λ n. kept (start_at s.a s.b s.first n) (start_decided routes (start_at s.a s.b s.first n))) (runs_of s.b) s.b_first s is.pair.of_b
      (is_kept s (start_decided routes s) is))))

  -- all starts, in order
  pub starts : List Start
  starts = in_order start_cmp starts_total listed

  pub starts_sorted : IsStrictlySortedBy start_cmp starts
  unfolding starts
  starts_sorted = are_in_order start_cmp starts_total listed

  pub each_start : All (IsStart routes) starts
  unfolding starts
  each_start = each_in_order start_cmp starts_total (IsStart routes) listed each_listed

  pub all_starts : (s : Start) → IsStart routes s → Contains starts s
  unfolding starts
  all_starts s is = there_in_order listed s (is_listed s is)
