-- Up to where it stops, an exit is undercut by a nearer one.
use Rattle.std.proofs.Common.{◌≡◌, ◌⊎◌, suc, ℤ, ◌≤ℤ◌, ◌<ℤ◌, Bool, true, false, cond, List, [], ◌∷◌, refl, ap, ◌∙◌, subst, inl, inr, arith, if◌then◌else◌}
use Rattle.std.specs.Prelude.{Any, fold, int_le, int_lt, ◌&&◌}
use Rattle.std.specs.Int.{int_gap, int_max}
use Rattle.std.specs.Ordering.{is_lt}
use Rattle.std.specs.declared.cmp.Ordering.TheVariants.{Less}
use Rattle.std.proofs.lemmas.Bool.{and_parts}
use Rattle.std.proofs.lemmas.Int.{ints}
use Rattle.move_model.specs.Ahead.{ahead_cmp, with_steps}
use Rattle.exit_rows.specs.declared.exit.Kept.{Kept}
use Rattle.exit_rows.specs.Exits.{CountsAt, IsUndercut, ahead_at, stop_of, undercuts}
use Rattle.exit_rows.proofs.Least.{le_tested, lt_tested}
use Rattle.exit_rows.proofs.Orders.{ahead_behind, steps_order, tested_less}

module _ (e : Kept) where
  abbrev next_stop : ℤ → Kept → ℤ
  next_stop stop o = if undercuts o e then int_max stop o.at else stop

  -- the stop from one that is known before
  abbrev stop_from : ℤ → List Kept → ℤ
  stop_from stop row = fold (λ stop o. if undercuts o e then int_max stop o.at else stop) stop row

  next_is : (stop : ℤ) (o : Kept) → (stop ≤ℤ next_stop stop o) × ((next_stop stop o ≡ stop) ⊎ ((undercuts o e ≡ true) × (next_stop stop o ≡ o.at)))
  next_is stop o = by_test (undercuts o e) refl
    where
      by_less : (c : Bool) → int_lt o.at stop ≡ c → undercuts o e ≡ true → (stop ≤ℤ cond c stop o.at) × ((cond c stop o.at ≡ stop) ⊎ ((undercuts o e ≡ true) × (cond c stop o.at ≡ o.at)))
      by_less true l t = (omega (arith, ints), inl refl)
      by_less false l t = (omega (arith, ints, l), inr (t, refl))

      by_test : (b : Bool) → undercuts o e ≡ b → (stop ≤ℤ (if b then int_max stop o.at else stop)) × (((if b then int_max stop o.at else stop) ≡ stop) ⊎ ((undercuts o e ≡ true) × ((if b then int_max stop o.at else stop) ≡ o.at)))
      by_test true t = by_less (int_lt o.at stop) refl t
      by_test false t = (omega (arith, ints), inl refl)

  pub stop_after : (row : List Kept) (stop : ℤ) → stop ≤ℤ stop_from stop row
  stop_after [] stop = omega (arith, ints)
  stop_after (o ∷ row) stop = let first = (next_is stop o).0 in let rest = stop_after row (next_stop stop o) in omega (arith, ints, first, rest)

  stop_at : (row : List Kept) (stop : ℤ) → (stop_from stop row ≡ stop) ⊎ Any (λ o. (undercuts o e ≡ true) × (stop_from stop row ≡ o.at)) row
  stop_at [] stop = inl refl
  stop_at (o ∷ row) stop = by_rest (stop_at row (next_stop stop o)) (next_is stop o).1
    where
      end : ℤ
      end = stop_from (next_stop stop o) row

      by_rest : (end ≡ next_stop stop o) ⊎ Any (λ x. (undercuts x e ≡ true) × (end ≡ x.at)) row → (next_stop stop o ≡ stop) ⊎ ((undercuts o e ≡ true) × (next_stop stop o ≡ o.at))
          → (end ≡ stop) ⊎ Any (λ x. (undercuts x e ≡ true) × (end ≡ x.at)) (o ∷ row)
      by_rest (inl here) (inl same) = inl (here ∙ same)
      by_rest (inl here) (inr this) = inr (0, o, omega arith, refl, (this.0, here ∙ this.1))
      by_rest (inr (k, x, lt, is, of)) this = inr (suc k, x, omega (arith, lt), is, of)

  -- one that undercuts this one has less ahead wherever both count
  cuts_at : (o : Kept) (z : ℤ) → undercuts o e ≡ true → e.from ≤ℤ z → z <ℤ o.at → CountsAt o z × (ahead_cmp (ahead_at o z) (ahead_at e z) ≡ Less)
  cuts_at o z cuts low high =
      let outer = and_parts (int_le o.from e.from && int_lt o.at e.at) (is_lt (ahead_cmp o.ahead (ahead_at e o.at))) cuts in
      let inner = and_parts (int_le o.from e.from) (int_lt o.at e.at) outer.0 in
      let from = le_tested o.from e.from inner.0 in
      let nearer = lt_tested o.at e.at inner.1 in
      let behind : ahead_at e z ≡ with_steps (int_gap z o.at) (ahead_at e o.at) = ahead_behind e z o.at (omega (arith, ints, high)) (omega (arith, ints, nearer)) in (
        record { from = omega (arith, ints, from, low); before = high },
        ap (ahead_cmp (ahead_at o z)) behind ∙ steps_order (int_gap z o.at) o.ahead (ahead_at e o.at) ∙ tested_less o.ahead (ahead_at e o.at) outer.1,
      )

  pub undercut_before : (row : List Kept) (z : ℤ) → e.from ≤ℤ z → z <ℤ stop_of row e → IsUndercut row e z
  undercut_before row z low high = by_case (stop_at row e.from)
    where
      by_case : (stop_of row e ≡ e.from) ⊎ Any (λ o. (undercuts o e ≡ true) × (stop_of row e ≡ o.at)) row → IsUndercut row e z
      by_case (inl none) = absurd (omega (arith, ints, none, low, high))
      by_case (inr (k, o, lt, is, of)) = (k, o, lt, is, cuts_at o z of.0 low (subst (λ s. z <ℤ s) of.1 high))
