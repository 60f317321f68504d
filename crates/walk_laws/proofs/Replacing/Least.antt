-- A first walk is no worse than any legal one, key by key.
use Rattle.std.proofs.Common.{◌≡◌, ℕ, ◌<◌, ◌≤◌, ℤ, ◌≤ℤ◌, ◌<ℤ◌, List, refl, inl, inr, arith}
use Rattle.std.specs.declared.cmp.Ordering.{Ordering}
use Rattle.std.specs.declared.cmp.Ordering.TheVariants.{Less, Equal, Greater}
use Rattle.std.specs.Ordering.{nat_cmp, int_cmp, ordering_then}
use Rattle.std.proofs.lemmas.Bool.{cases_lt}
use Rattle.std.proofs.lemmas.Cmp.{ranked, int_ranked}
use Rattle.std.proofs.lemmas.Int.{ints, by_lt_z}
use Rattle.plane_geom.specs.declared.rect.Solid.{Solid}
use Rattle.walk_model.specs.declared.task.Task.{Task}
use Rattle.walk_model.specs.Cost.{runs}
use Rattle.walk_model.specs.Lean.{lean}
use Rattle.walk_model.specs.Order.{Triple, IsLegalTriple, triple_cost, IsBefore, IsFirst}
use Rattle.walk_model.proofs.Ranking.First.{cheaper_before, cheaper_cmp}

past_equal : (m n : ℕ) (p : Ordering) → m ≡ n → p ≡ Less → ordering_then (nat_cmp m n) p ≡ Less
past_equal m n p e h = by_order (nat_cmp m n) refl
  where
    by_order : (o : Ordering) → o ≡ nat_cmp m n → ordering_then o p ≡ Less
    by_order Less f = refl
    by_order Equal f = h
    by_order Greater f = let l : n < m = ranked m n Greater f in absurd (omega arith)

lower_cmp : (a b : ℤ) (p : Ordering) → a <ℤ b → ordering_then (int_cmp a b) p ≡ Less
lower_cmp a b p h = by_order (int_cmp a b) refl
  where
    by_order : (o : Ordering) → o ≡ int_cmp a b → ordering_then o p ≡ Less
    by_order Less f = refl
    by_order Equal f = let l : a ≡ b = int_ranked a b Equal f in absurd (omega (arith, ints))
    by_order Greater f = let l : b <ℤ a = int_ranked a b Greater f in absurd (omega (arith, ints))

fewer_before : (task : Task) (u t : Triple) → triple_cost task u ≡ triple_cost task t → runs u.walk.steps < runs t.walk.steps → IsBefore task u t
fewer_before task u t e h = past_equal _ _ _ e (cheaper_cmp _ _ _ h)

leaner_before : (task : Task) (u t : Triple) → triple_cost task u ≡ triple_cost task t → runs u.walk.steps ≡ runs t.walk.steps → lean u.walk.start u.walk.steps <ℤ lean t.walk.start t.walk.steps → IsBefore task u t
leaner_before task u t e f h = past_equal _ _ _ e (past_equal _ _ _ f (lower_cmp _ _ _ h))

-- the first costs no more than the second, at the same cost has no more runs, and then no greater sum of run coordinates
pub record IsNoWorse (task : Task) (t u : Triple) : Type 0 where
  pub cost : triple_cost task t ≤ triple_cost task u
  pub fewer : triple_cost task u ≤ triple_cost task t → runs t.walk.steps ≤ runs u.walk.steps
  pub lower : triple_cost task u ≤ triple_cost task t → runs u.walk.steps ≤ runs t.walk.steps → lean t.walk.start t.walk.steps ≤ℤ lean u.walk.start u.walk.steps

-- a first walk is no worse than any legal one
pub first_no_worse : (solids : List Solid) (task : Task) (t u : Triple) → IsFirst solids task t → IsLegalTriple solids task u → IsNoWorse task t u
first_no_worse solids task t u first legal =
    let cost : triple_cost task t ≤ triple_cost task u = elim (cases_lt (triple_cost task u) (triple_cost task t)) as (λ _. triple_cost task t ≤ triple_cost task u)
    [ inl l ↦ absurd (first.first u legal (cheaper_before task u t l)) | inr l ↦ l ] in
    let fewer : triple_cost task u ≤ triple_cost task t → runs t.walk.steps ≤ runs u.walk.steps = λ h.
    elim (cases_lt (runs u.walk.steps) (runs t.walk.steps)) as (λ _. runs t.walk.steps ≤ runs u.walk.steps)
    [ inl l ↦ absurd (first.first u legal (fewer_before task u t (omega arith) l)) | inr l ↦ l ] in
    record {
      cost = cost;
      fewer = fewer;
      lower = λ h k. let m = fewer h in by_lt_z (lean u.walk.start u.walk.steps) (lean t.walk.start t.walk.steps)
          (λ l. absurd (first.first u legal (leaner_before task u t (omega arith) (omega arith) l)))
          (λ l. l);
    }
