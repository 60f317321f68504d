-- What is counted at a reach, and a lower best cost.
use Rattle.std.proofs.Common.{◌≡◌, ℕ, ℤ, ◌≤◌, ◌&&◌, min, Bool, true, false, Option, None, Some, refl, sym, subst, inl, inr, arith}
use Rattle.std.specs.Prelude.{IfSome, int_le, int_lt, if◌then◌else◌}
use Rattle.std.proofs.Math.Nat.{min-eq_left, min-eq_right}
use Rattle.std.proofs.lemmas.Bool.{cases_lt}
use Rattle.std.proofs.lemmas.Int.{ints}
use Rattle.walk_model.specs.Order.{IsLegalTriple, Triple, triple_cost}
use Rattle.move_model.specs.declared.ahead.Ahead.{Ahead}
use Rattle.search_problem.specs.declared.problem.Problem.{Problem}
use Rattle.exit_rows.specs.Exits.{CountsAt, ahead_at, counted_at}
use Rattle.exit_rows.specs.declared.exit.Kept.{Kept}
use Rattle.exit_spread.specs.Ways.{IsBest}

by_tests : (e : Kept) (z : ℤ) (from before : Bool) → int_le e.from z ≡ from → int_lt z e.at ≡ before → IfSome (if from && before then Some (ahead_at e z) else None) (λ v. CountsAt e z × (v ≡ ahead_at e z))
by_tests e z true true f b = (record { from = grind (arith, ints); before = grind (arith, ints) }, refl)
by_tests e z true false f b = tt
by_tests e z false before f b = tt

-- what is counted there is ahead by the exit, which counts there
pub counted : (e : Kept) (z : ℤ) → IfSome (counted_at e z) (λ v. CountsAt e z × (v ≡ ahead_at e z))
counted e z = by_tests e z (int_le e.from z) (int_lt z e.at) refl refl

pub counted_some : (e : Kept) (z : ℤ) (v : Ahead) → counted_at e z ≡ Some v → CountsAt e z × (v ≡ ahead_at e z)
counted_some e z v is = subst (λ (o : Option Ahead). IfSome o (λ u. CountsAt e z × (u ≡ ahead_at e z))) is (counted e z)

-- the lesser of the best cost and the cost of a legal walk is a best cost
pub lower_best : (p : Problem) (limit best cost : ℕ) → IsBest p limit best → (t : Triple) × IsLegalTriple p.solids.now p.task.now t × (triple_cost p.task.now t ≡ cost) → IsBest p limit (min best cost)
lower_best p limit best cost h (t, legal, is) = elim (cases_lt cost best) as (λ _. IsBest p limit (min best cost)) [
  | inl less ↦ (
      let most = h.most in
      let low : cost ≤ best = omega (arith, less) in
      subst (IsBest p limit) (sym (min-eq_right low)) (record { most = omega (arith, less, most); of_walk = inr (t, legal, sym is) }))
  | inr upto ↦ subst (IsBest p limit) (sym (min-eq_left upto)) h
]
