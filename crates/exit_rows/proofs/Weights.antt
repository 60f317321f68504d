-- An exit that is not late makes its row weigh less.
use Rattle.std.proofs.Common.{◌≡◌, ◌⊎◌, ℕ, zero, suc, ◌+◌, ◌*◌, ◌<◌, ◌≤◌, ◌==◌, pos, ◌-ℤ◌, ◌<ℤ◌, ◌≤ℤ◌, Bool, true, false, if◌then◌else◌, List, [], ◌∷◌, ◌++◌, Some, None, refl, sym, ap, ◌∙◌, subst, inl, inr, arith}
use Rattle.std.proofs.Math.IntN.{negsuc}
use Rattle.std.specs.Prelude.{All, Contains, Option, fold, min}
use Rattle.std.specs.Int.{int_gap}
use Rattle.std.specs.Ordering.{int_cmp, nat_cmp, ordering_then}
use Rattle.std.specs.declared.cmp.Ordering.{Ordering}
use Rattle.std.specs.declared.cmp.Ordering.TheVariants.{Less, Equal, Greater}
use Rattle.std.proofs.lemmas.Bool.{cases_eq, eqb-true, eq-eqb}
use Rattle.std.proofs.lemmas.Cmp.{int_ranked, ranked}
use Rattle.std.proofs.lemmas.Int.{ints}
use Rattle.std.proofs.lemmas.List.Sums.{fold_push}
use Rattle.plane_geom.specs.declared.point.Dir.{Dir}
use Rattle.plane_geom.specs.declared.point.Dir.TheVariants.{East, South, West, North}
use Rattle.move_model.specs.declared.ahead.Ahead.{Ahead}
use Rattle.move_model.specs.Ahead.{ahead_cmp}
use Rattle.exit_rows.specs.declared.exit.Kept.{Kept}
use Rattle.exit_rows.specs.Exits.{IsLate, IsSmallAhead}
use Rattle.exit_rows.specs.Weights.{CountAlike, least_rank, most_rank, next_number, rank, row_weight, slot_of, sum_below}
use Rattle.exit_rows.proofs.Late.{less_than_kept}
use Rattle.exit_rows.proofs.Orders.{gap_above}

-- ---- of two that are small the lesser has the lesser rank

-- how far the lean is above the least one of what is small
abbrev lean_above : Ahead → ℕ
lean_above v = int_gap (negsuc 6579203999999999) v.lean

lean_range : (v : Ahead) → IsSmallAhead v → (pos (lean_above v) ≡ v.lean -ℤ negsuc 6579203999999999) × (lean_above v ≤ 13158408000000000)
lean_range v h =
    let low : negsuc 6579203999999999 ≤ℤ v.lean = omega (arith, ints, h.lean, h.runs) in
    let is = gap_above (negsuc 6579203999999999) v.lean low in
    (is, omega (arith, ints, is, h.lean, h.runs))

-- what comes first of two that differ
less_cases : (v w : Ahead) → ahead_cmp v w ≡ Less → (v.cost < w.cost) ⊎ ((v.cost ≡ w.cost) × ((v.runs < w.runs) ⊎ ((v.runs ≡ w.runs) × (v.lean <ℤ w.lean))))
less_cases v w h = by_cost (nat_cmp v.cost w.cost) refl h
  where
    by_runs : (o : Ordering) → o ≡ nat_cmp v.runs w.runs → v.cost ≡ w.cost → ordering_then o (int_cmp v.lean w.lean) ≡ Less
        → (v.cost < w.cost) ⊎ ((v.cost ≡ w.cost) × ((v.runs < w.runs) ⊎ ((v.runs ≡ w.runs) × (v.lean <ℤ w.lean))))
    by_runs Less e c k = inr (c, inl (ranked v.runs w.runs Less e))
    by_runs Equal e c k = inr (c, inr (ranked v.runs w.runs Equal e, int_ranked v.lean w.lean Less (sym k)))
    by_runs Greater e c k = absurd (let wrong : Greater ≡ Less = k in cc)

    by_cost : (o : Ordering) → o ≡ nat_cmp v.cost w.cost → ordering_then o (ordering_then (nat_cmp v.runs w.runs) (int_cmp v.lean w.lean)) ≡ Less
        → (v.cost < w.cost) ⊎ ((v.cost ≡ w.cost) × ((v.runs < w.runs) ⊎ ((v.runs ≡ w.runs) × (v.lean <ℤ w.lean))))
    by_cost Less e k = inl (ranked v.cost w.cost Less e)
    by_cost Equal e k = by_runs (nat_cmp v.runs w.runs) refl (ranked v.cost w.cost Equal e) k
    by_cost Greater e k = absurd (let wrong : Greater ≡ Less = k in cc)

pub lesser_rank : (v w : Ahead) → IsSmallAhead v → IsSmallAhead w → ahead_cmp v w ≡ Less → rank v + 1 ≤ rank w
lesser_rank v w sv sw less = by_case (less_cases v w less)
  where
    by_case : (v.cost < w.cost) ⊎ ((v.cost ≡ w.cost) × ((v.runs < w.runs) ⊎ ((v.runs ≡ w.runs) × (v.lean <ℤ w.lean)))) → rank v + 1 ≤ rank w
    by_case (inl cost) = let r = lean_range v sv in omega (arith, cost, r.1, sv.runs)
    by_case (inr (c, inl runs)) = let r = lean_range v sv in omega (arith, c, runs, r.1)
    by_case (inr (c, inr (r, lean))) = let a = lean_range v sv in let b = lean_range w sw in omega (arith, ints, c, r, lean, a.0, b.0)

small_rank : (v : Ahead) → IsSmallAhead v → rank v + 1 ≤ most_rank
small_rank v small = let r = lean_range v small in omega (arith, r.1, small.cost, small.runs)

-- ---- one number stands for a crossing and where a walk goes on

few_next : (n : Option Dir) → next_number n < 5
few_next None = omega arith
few_next (Some East) = omega arith
few_next (Some South) = omega arith
few_next (Some West) = omega arith
few_next (Some North) = omega arith

abbrev next_of : ℕ → Option Dir
next_of zero = None
next_of (suc zero) = Some East
next_of (suc (suc zero)) = Some South
next_of (suc (suc (suc zero))) = Some West
next_of (suc (suc (suc (suc k)))) = Some North

next_again : (n : Option Dir) → next_of (next_number n) ≡ n
next_again None = refl
next_again (Some East) = refl
next_again (Some South) = refl
next_again (Some West) = refl
next_again (Some North) = refl

same_slot : (o e : Kept) → slot_of o ≡ slot_of e → (o.crossing ≡ e.crossing) × (o.next ≡ e.next)
same_slot o e h =
    let a = few_next o.next in
    let b = few_next e.next in
    let next : next_number o.next ≡ next_number e.next = omega (arith, h, a, b) in
    (omega (arith, h, a, b), sym (next_again o.next) ∙ ap next_of next ∙ next_again e.next)

-- ---- the least rank with a number

abbrev one_more : (n : ℕ) → ℕ → Kept → ℕ
one_more n least e = if slot_of e == n then min least (rank e.ahead) else least

-- if the least so far and all with the number are above this, so is the least of all
above : (n r : ℕ) (row : List Kept) (least : ℕ) → r ≤ least → ((o : Kept) → Contains row o → slot_of o ≡ n → r ≤ rank o.ahead)
    → r ≤ fold (λ least e. if slot_of e == n then min least (rank e.ahead) else least) least row
above n r [] least h all = h
above n r (o ∷ row) least h all =
    above n r row (one_more n least o) (by_test (slot_of o == n) refl) (λ x (k, lt, is) at. all x (suc k, omega (arith, lt), is) at)
  where
    by_test : (b : Bool) → (slot_of o == n) ≡ b → r ≤ (if b then min least (rank o.ahead) else least)
    by_test true t = let own = all o (0, omega arith, refl) (eqb-true (slot_of o) n t) in omega (arith, own, h)
    by_test false t = h

module _ (row : List Kept) (e : Kept) where
  pushed : (n : ℕ) → least_rank (row ++ e ∷ []) n ≡ one_more n (least_rank row n) e
  pushed n = fold_push (λ least e. if slot_of e == n then min least (rank e.ahead) else least) most_rank row e

  -- the least rank rises nowhere
  no_rise : (n : ℕ) → least_rank (row ++ e ∷ []) n ≤ least_rank row n
  no_rise n = rw (pushed n) (by_test (slot_of e == n))
    where
      by_test : (b : Bool) → (if b then min (least_rank row n) (rank e.ahead) else least_rank row n) ≤ least_rank row n
      by_test true = omega arith
      by_test false = omega arith

  module _ (small : IsSmallAhead e.ahead) (smalls : All (λ o. IsSmallAhead o.ahead) row) (alike : CountAlike row e) (late : IsLate row e → ⊥) where
    each_more : (o : Kept) → Contains row o → slot_of o ≡ slot_of e → rank e.ahead + 1 ≤ rank o.ahead
    each_more o (k, lt, is) same =
        let both = same_slot o e same in
        let counts = subst (λ x. x.crossing ≡ e.crossing → (x.at ≡ e.at) × (x.from ≡ e.from)) is (alike k o lt) both.0 in
        lesser_rank e.ahead o.ahead small (subst (λ x. IsSmallAhead x.ahead) is (smalls k o lt))
        (less_than_kept row e o late (k, lt, is) counts.0 counts.1 both.1)

    -- at the number of an exit that is not late it falls
    falls : least_rank (row ++ e ∷ []) (slot_of e) + 1 ≤ least_rank row (slot_of e)
    falls =
        let before : rank e.ahead + 1 ≤ least_rank row (slot_of e) = above (slot_of e) (rank e.ahead + 1) row most_rank (small_rank e.ahead small) each_more in
        let now : least_rank (row ++ e ∷ []) (slot_of e) ≡ min (least_rank row (slot_of e)) (rank e.ahead) =
        pushed (slot_of e) ∙ ap (λ (b : Bool). if b then min (least_rank row (slot_of e)) (rank e.ahead) else least_rank row (slot_of e)) (eq-eqb (slot_of e) (slot_of e) refl) in
        omega (arith, before, now)

-- ---- the sum of the least ranks

sum_no_rise : (f g : ℕ → ℕ) → ((k : ℕ) → f k ≤ g k) → (n : ℕ) → sum_below n f ≤ sum_below n g
sum_no_rise f g h zero = omega arith
sum_no_rise f g h (suc n) = let rest = sum_no_rise f g h n in let this = h n in omega (arith, rest, this)

sum_falls : (f g : ℕ → ℕ) → ((k : ℕ) → f k ≤ g k) → (k : ℕ) → f k + 1 ≤ g k → (n : ℕ) → k < n → sum_below n f + 1 ≤ sum_below n g
sum_falls f g h k less zero lt = absurd (omega (arith, lt))
sum_falls f g h k less (suc n) lt = by_case (cases_eq k n) (sum_falls f g h k less n)
  where
    by_case : (k ≡ n) ⊎ (k ≡ n → ⊥) → (k < n → sum_below n f + 1 ≤ sum_below n g) → sum_below n f + f n + 1 ≤ sum_below n g + g n
    by_case (inl same) before = let rest = sum_no_rise f g h n in let this : f n + 1 ≤ g n = subst (λ j. f j + 1 ≤ g j) same less in omega (arith, rest, this)
    by_case (inr apart) before = let rest = before (omega (arith, lt, apart)) in let this = h n in omega (arith, rest, this)

-- an exit that is not late makes its row weigh less
pub row_lighter : (places : ℕ) (row : List Kept) (e : Kept) → e.crossing < places → IsSmallAhead e.ahead → All (λ o. IsSmallAhead o.ahead) row → CountAlike row e → (IsLate row e → ⊥)
    → row_weight places (row ++ e ∷ []) + 1 ≤ row_weight places row
row_lighter places row e lt small smalls alike late =
    let few = few_next e.next in
    sum_falls (least_rank (row ++ e ∷ [])) (least_rank row) (no_rise row e) (slot_of e) (falls row e small smalls alike late) (places * 5) (omega (arith, lt, few))
