-- Stretches, and their order.
use Rattle.std.proofs.Common.{◌≡◌, ◌⊎◌, ℕ, zero, suc, ◌+◌, ◌<◌, ℤ, pos, ◌≤ℤ◌, ◌<ℤ◌, Bool, true, false, List, [], ◌∷◌, ◌++◌, length, get_or, All, inl, inr, refl, sym, ap, ◌∙◌, subst, arith}
use Rattle.std.specs.Prelude.{AllPairs, Contains}
use Rattle.std.specs.declared.cmp.Ordering.{Ordering}
use Rattle.std.specs.declared.cmp.Ordering.TheVariants.{Less, Equal, Greater}
use Rattle.std.specs.Ordering.{bool_cmp, int_cmp, is_lt, nat_cmp, ordering_then}
use Rattle.std.specs.Cmp.{IsTotalOrder, bool_cmp_total}
use Rattle.std.specs.List.Sorted.{IsSorted}
use Rattle.std.proofs.lemmas.Bool.{cases_lt}
use Rattle.std.proofs.lemmas.Int.{ints}
use Rattle.std.proofs.lemmas.Cmp.{by_ranked, int_cmp_total, int_ranked, nat_cmp_total, on_total, then_total, tied_itself}
use Rattle.std.proofs.lemmas.List.Elements.{All-push, Contains-append_left, Contains-push}
use Rattle.std.proofs.lemmas.List.Sorted.{ranks_by, sorted_far}
use Rattle.segment_order.specs.declared.run.Run.{Run}
use Rattle.segment_order.specs.Run.{no_run, run_at}
use Rattle.shared_paths.specs.declared.path.EdgeRuns.{EdgeRuns}
use Rattle.shared_paths.specs.declared.stretch.WholeLine.{WholeLine}
use Rattle.shared_paths.specs.declared.stretch.Stretch.{Stretch}
use Rattle.shared_paths.specs.Listed.{route_at}
use Rattle.shared_paths.specs.Starts.{BeginsFirst, IsStretch, as_stretch, line_cmp, stretch_of}

-- what is below one more is below, or it
pub below_or_at : (k n : ℕ) → k < n + 1 → (k < n) ⊎ (k ≡ n)
below_or_at k n l = elim (cases_lt k n) as (λ _. (k < n) ⊎ (k ≡ n)) [ inl h ↦ inl h | inr h ↦ inr (omega arith) ]

-- inside a list the default plays no part
pub any_default : {X : Type 0} (xs : List X) (k : ℕ) (d e : X) → k < length xs → get_or xs k d ≡ get_or xs k e
any_default [] k d e l = absurd (omega arith)
any_default (x ∷ xs) zero d e l = refl
any_default (x ∷ xs) (suc k) d e l = any_default xs k d e (omega arith)

-- what the generated proofs read past the end
abbrev pub any_stretch : Stretch
any_stretch = record { line = record { is_vertical = false; at = pos 0 }; lo = pos 0; hi = pos 0; route = 0; index = 0 }

-- the stretch of the run at the index of the runs of the route
pub is_stretch_of : (routes : List EdgeRuns) (route m : ℕ) (runs : List Run) (d : Run) → runs ≡ (route_at routes route).runs → m < length runs →
    as_stretch (get_or runs m d) route m ≡ stretch_of routes route m
is_stretch_of routes route m runs d same l =
    ap (λ r. as_stretch r route m) (any_default runs m d no_run l ∙ ap (λ rs. run_at rs m) same)

-- the first runs of the route are added to what was there
pub record AreAdded (routes : List EdgeRuns) (route count : ℕ) (was found : List Stretch) : Type 0 where
  pub each : All (IsStretch routes) found
  pub kept : (s : Stretch) → Contains was s → Contains found s
  pub all : (m : ℕ) → m < count → Contains found (stretch_of routes route m)

pub one_more : (routes : List EdgeRuns) (route m : ℕ) (was found new : List Stretch) (x : Stretch) → route < length routes → m < length (route_at routes route).runs →
    x ≡ stretch_of routes route m → new ≡ found ++ x ∷ [] → AreAdded routes route m was found → AreAdded routes route (m + 1) was new
one_more routes route m was found new x in_routes in_runs is e so = record {
  each = subst (All (IsStretch routes)) (sym e) (All-push (IsStretch routes) found x so.each (subst (IsStretch routes) (sym is) (record { of_route = in_routes; of_run = in_runs; is = refl })));
  kept = λ s has. subst (λ xs. Contains xs s) (sym e) (Contains-append_left found (x ∷ []) s (so.kept s has));
  all = λ k l. elim (below_or_at k m l) as (λ _. Contains new (stretch_of routes route k)) [
    | inl below ↦ subst (λ xs. Contains xs (stretch_of routes route k)) (sym e) (Contains-append_left found (x ∷ []) (stretch_of routes route k) (so.all k below))
    | inr here ↦ subst (λ n. Contains new (stretch_of routes route n)) (sym here) (subst (Contains new) is (subst (λ xs. Contains xs x) (sym e) (Contains-push found x)))
  ];
}

-- the runs of the first routes are found
pub record AreFound (routes : List EdgeRuns) (count : ℕ) (found : List Stretch) : Type 0 where
  pub each : All (IsStretch routes) found
  pub all : (k m : ℕ) → k < count → m < length (route_at routes k).runs → Contains found (stretch_of routes k m)

-- the order of stretches
abbrev pub stretch_cmp : Stretch → Stretch → Ordering
stretch_cmp s t =
    ordering_then (line_cmp s.line t.line)
    (ordering_then (int_cmp s.lo t.lo)
    (ordering_then (int_cmp s.hi t.hi)
    (ordering_then (nat_cmp s.route t.route)
    (nat_cmp s.index t.index))))

line_total : IsTotalOrder line_cmp
line_total = then_total (on_total (λ (l : WholeLine). l.is_vertical) bool_cmp_total) (on_total (λ (l : WholeLine). l.at) int_cmp_total)

stretch_total : IsTotalOrder stretch_cmp
stretch_total =
    then_total (on_total (λ (s : Stretch). s.line) line_total)
    (then_total (on_total (λ (s : Stretch). s.lo) int_cmp_total)
    (then_total (on_total (λ (s : Stretch). s.hi) int_cmp_total)
    (then_total (on_total (λ (s : Stretch). s.route) nat_cmp_total)
    (on_total (λ (s : Stretch). s.index) nat_cmp_total))))

first_not_less : (o p : Ordering) → is_lt (ordering_then o p) ≡ false → is_lt o ≡ false
first_not_less Less p h = h
first_not_less Equal p h = refl
first_not_less Greater p h = refl

pub not_less : (y z : ℤ) → is_lt (int_cmp y z) ≡ false → z ≤ℤ y
not_less y z h =
    by_ranked (y <ℤ z) (y ≡ z) (z <ℤ y) (int_cmp y z) (int_ranked y z _ refl)
    (λ o l. (let t : true ≡ false = ap is_lt (sym o) ∙ h in cc)) (λ o e. omega (arith, ints)) (λ o l. omega (arith, ints))

begins_first : (s t : Stretch) → is_lt (stretch_cmp t s) ≡ false → BeginsFirst s t
begins_first s t h = record {
  line = first_not_less (line_cmp t.line s.line) _ h;
  lo = λ same. (
      let tie : line_cmp t.line s.line ≡ Equal = ap (line_cmp t.line) same ∙ tied_itself line_total t.line in
      let rest : is_lt (ordering_then Equal (ordering_then (int_cmp t.lo s.lo) (ordering_then (int_cmp t.hi s.hi) (ordering_then (nat_cmp t.route s.route) (nat_cmp t.index s.index))))) ≡ false =
      subst (λ o. is_lt (ordering_then o (ordering_then (int_cmp t.lo s.lo) (ordering_then (int_cmp t.hi s.hi) (ordering_then (nat_cmp t.route s.route) (nat_cmp t.index s.index))))) ≡ false) tie h in
      not_less t.lo s.lo (first_not_less (int_cmp t.lo s.lo) _ rest)
      );
}

-- sorted stretches are in order
pub in_order : (xs : List Stretch) → IsSorted stretch_cmp xs → AllPairs BeginsFirst xs
in_order xs sorted = λ i j d l h.
    begins_first (get_or xs i d) (get_or xs j d) (sorted_far (λ s t. is_lt (stretch_cmp s t)) (ranks_by stretch_total (λ (s : Stretch). s)) xs sorted i j d (omega arith) h)

-- two numbers of which neither is less
no_order : (y z : ℤ) → is_lt (int_cmp y z) ≡ false → is_lt (int_cmp z y) ≡ false → y ≡ z
no_order y z h k = let p = not_less y z h in let q = not_less z y k in omega (arith, ints, p, q)

same_parts : (v w : Bool) (y z : ℤ) → is_lt (ordering_then (bool_cmp v w) (int_cmp y z)) ≡ false → is_lt (ordering_then (bool_cmp w v) (int_cmp z y)) ≡ false → (v ≡ w) × (y ≡ z)
same_parts false false y z h k = (refl, no_order y z h k)
same_parts false true y z h k = cc
same_parts true false y z h k = cc
same_parts true true y z h k = (refl, no_order y z h k)

-- a stretch between two of one line lies in it
pub between : (s t u : Stretch) → BeginsFirst s t → BeginsFirst t u → s.line ≡ u.line → s.line ≡ t.line
between s t u one two same =
    let back : is_lt (line_cmp s.line t.line) ≡ false = subst (λ l. is_lt (line_cmp l t.line) ≡ false) (sym same) two.line in
    let parts = same_parts s.line.is_vertical t.line.is_vertical s.line.at t.line.at back one.line in
    λ i. record { is_vertical = parts.0 i; at = parts.1 i }
