-- A search at its start, and how its table is cleared for it.
use Rattle.std.proofs.Common.{◌≡◌, ◌≢◌, ℕ, ◌+◌, ◌^◌, ◌<◌, ◌≤◌, pos, ◌-ℤ◌, ◌<ℤ◌, FitsSigned, Option, Some, None, List, [], ◌∷◌, length, get_or, set, replicate, sum_by, arith, refl, ap, sym, subst, ◌∙◌, ⊎_elim, length-set, get_or-set_other, get_or-set_same, lit<}
use mir.Syntax.{w128}
use Rattle.std.proofs.lemmas.Bool.{cases_eq, cases_lt}
use Rattle.std.proofs.lemmas.Int.{ints, fits_signed_from_abs}
use Rattle.std.proofs.lemmas.List.{ext_get_or, get_or-replicate, get_or_past, length-replicate}
use Rattle.std.proofs.lemmas.List.Folds.{sum_by-replicate}
use Rattle.std.proofs.lemmas.List.Sums.{sum_by-set}
use Rattle.std.proofs.lemmas.Option.{none-some}
use Rattle.separation_model.specs.Bundle.{int_at}
use Rattle.separation_solve.specs.declared.fraction.Fraction.{Fraction}
use Rattle.separation_solve.specs.declared.network.Network.{Network}
use Rattle.separation_solve.specs.declared.reach.Reach.{Reach}
use Rattle.separation_solve.specs.declared.reach.Step.{Step}
use Rattle.separation_solve.specs.Network.{IsSound, items_of, place_at}
use Rattle.separation_solve.specs.Reach.{IsReach, IsStep, IsTable, StandsAt, found_at, not_found, step_at}
use Rattle.separation_solve.proofs.Searches.Leads.{excess_size}
use Rattle.separation_solve.proofs.Lists.Optional.{match_none, none_if_not_some}

-- nothing found yet
abbrev pub blank : ℕ → List (Option ℕ)
blank k = replicate k None

pub length-blank : (k : ℕ) → length (blank k) ≡ k
length-blank k = length-replicate {A = Option ℕ} k None

-- the negated excess fits
pub short_fits : (n : Network) (i : ℕ) → IsSound n → FitsSigned w128 (pos 0 -ℤ int_at n.excess.items i)
short_fits n i sound = fits_signed_from_abs w128 (pos 0 -ℤ int_at n.excess.items i) (omega (arith, ints, excess_size n i sound, lit< {m = 92480000000000000000000000000} {n = 2 ^ 127} tt))

pub excess_fits : (n : Network) (i : ℕ) → IsSound n → FitsSigned w128 (int_at n.excess.items i)
excess_fits n i sound = fits_signed_from_abs w128 (int_at n.excess.items i) (omega (arith, ints, excess_size n i sound, lit< {m = 92480000000000000000000000000} {n = 2 ^ 127} tt))

-- the start stands where it stands
stands_here : (p : Fraction) → StandsAt (pos 0) p p
stands_here p = record {
  num = omega (arith, ints);
  den = refl;
}

blank_at : (k i : ℕ) → found_at (blank k) i ≡ None
blank_at k i =
    ⊎_elim
    (λ (h : i < k). get_or-replicate k i None None h)
    (λ (h : k ≤ i). get_or_past (blank k) i None (omega (arith, length-blank k)))
    (cases_lt i k)

pub reach_new : (n : Network) (start : ℕ) (r : Reach) (first : Step) → IsSound n → start < items_of n → int_at n.excess.items start <ℤ pos 0 →
    first.node ≡ start → first.via ≡ None → first.offset ≡ pos 0 → first.capacity ≡ pos 0 -ℤ int_at n.excess.items start →
    r.steps.items ≡ first ∷ [] → r.found.items ≡ set (blank (items_of n + 1)) start (Some 0) → IsReach n start r
reach_new n start r first sound item short node via offset capacity steps_are found_are =
    let empty = blank (items_of n + 1) in
    let only : (k : ℕ) → k < length r.steps.items → k ≡ 0 = λ k h. omega (arith, h, ap length steps_are) in
    let first_is : step_at r.steps.items 0 ≡ first = ap (λ l. step_at l 0) steps_are in
    let is : (k : ℕ) → k < length r.steps.items → step_at r.steps.items k ≡ first = λ k h. ap (step_at r.steps.items) (only k h) ∙ first_is in
    let inside : start < length empty = omega (arith, length-blank (items_of n + 1), item) in
    let found_same : found_at r.found.items start ≡ Some 0 = ap (λ l. found_at l start) found_are ∙ get_or-set_same empty start (Some 0) None inside in
    let step : IsStep n start first = record {
      node = omega (arith, node, item);
      stands = rw (node, offset) (stands_here (place_at n.places.items start));
      low = omega (arith, ints, offset);
      high = omega (arith, ints, offset);
      some = omega (arith, ints, capacity, short);
      most = omega (arith, ints, capacity);
    } in
    record {
      nodes = ap length found_are ∙ length-set empty start (Some 0) ∙ length-blank (items_of n + 1);
      start_item = item;
      start_short = short;
      some = omega (arith, ap length steps_are);
      first = ap (λ s. s.node) first_is ∙ node;
      steps = λ k h. subst (IsStep n start) (sym (is k h)) step;
      come_by = λ k h. match_none (step_at r.steps.items k).via (k ≡ 0) _ (ap (λ s. s.via) (is k h) ∙ via) (only k h);
      once = λ k h. ap (λ s. found_at r.found.items s.node) (is k h) ∙ ap (found_at r.found.items) node ∙ found_same ∙ ap Some (sym (only k h));
      found = λ i k e. ⊎_elim
          (λ (q : i ≡ start).
          let z : Some 0 ≡ Some k = sym found_same ∙ ap (found_at r.found.items) (sym q) ∙ e in
          let k_is : 0 ≡ k = cc in
          (omega (arith, ap length steps_are, k_is), ap (λ m. (step_at r.steps.items m).node) (sym k_is) ∙ ap (λ s. s.node) first_is ∙ node ∙ sym q))
          (λ (ne : i ≢ start).
          let was : found_at r.found.items i ≡ found_at empty i = ap (λ l. found_at l i) found_are ∙ (rw get_or-set_other refl) in
          let none : found_at empty i ≡ None = blank_at (items_of n + 1) i in
          absurd (none-some k (sym none ∙ sym was ∙ e)))
          (cases_eq i start);
      count =
          let change = sum_by-set not_found empty start (Some 0) None inside in
          let one : not_found (get_or empty start None) ≡ 1 = ap not_found (blank_at (items_of n + 1) start) in
          let total = ap (sum_by not_found) found_are in
          let lens = ap length found_are ∙ length-set empty start (Some 0) ∙ length-blank (items_of n + 1) in
          omega (arith, ap length steps_are, change, one, total, lens, sum_by-replicate not_found (items_of n + 1) None);
    }

-- the first steps' nodes have been cleared: the table gives the others what it gave
pub record IsClearing (old now : Reach) (k : ℕ) : Type 0 where
  pub steps : now.steps ≡ old.steps
  pub count : length now.found.items ≡ length old.found.items
  pub left : (i s : ℕ) → found_at now.found.items i ≡ Some s → (found_at old.found.items i ≡ Some s) × (k ≤ s)

pub cleared : (old now : Reach) (k : ℕ) → IsTable (length old.found.items) old → IsClearing old now k → length old.steps.items ≤ k → now.found.items ≡ blank (length old.found.items)
cleared old now k table so done =
    let n = length old.found.items in
    ext_get_or None now.found.items (blank n) (so.count ∙ sym (length-blank n)) (λ i h.
    none_if_not_some (found_at now.found.items i) (λ s e. let was = so.left i s e in absurd (omega (arith, (table.found i s was.0).0, was.1, done))) ∙ sym (blank_at n i))
