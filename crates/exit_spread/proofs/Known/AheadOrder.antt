-- The order of what is ahead distinguishes any two values, and compares costs first.
use Rattle.std.proofs.Common.{◌≡◌, ◌≢◌, ◌≤◌, refl, sym, ap, ◌∙◌, inl, inr}
use Rattle.std.specs.Cmp.{nat_cmp_is}
use Rattle.std.specs.declared.cmp.Ordering.{Ordering}
use Rattle.std.specs.declared.cmp.Ordering.TheVariants.{Less, Equal, Greater}
use Rattle.std.specs.Ordering.{nat_cmp, int_cmp, ordering_reverse, ordering_then}
use Rattle.std.proofs.lemmas.Bool.{cases_lt}
use Rattle.std.proofs.lemmas.Cmp.{int_ranked, ranked, tied_itself}
use Rattle.move_model.specs.declared.ahead.Ahead.{Ahead}
use Rattle.move_model.specs.Ahead.{ahead_cmp}
use Rattle.move_model.proofs.GoingOn.Stretching.{same_ahead}
use Rattle.exit_rows.proofs.Orders.{ahead_total}

both_equal : (o p : Ordering) → ordering_then o p ≡ Equal → (o ≡ Equal) × (p ≡ Equal)
both_equal Less p h = absurd (let wrong : Less ≡ Equal = h in cc)
both_equal Equal p h = (refl, h)
both_equal Greater p h = absurd (let wrong : Greater ≡ Equal = h in cc)

-- values that the order does not distinguish are equal
tied : (v w : Ahead) → ahead_cmp v w ≡ Equal → v ≡ w
tied v w h =
    let cost = both_equal (nat_cmp v.cost w.cost) _ h in
    let rest = both_equal (nat_cmp v.runs w.runs) (int_cmp v.lean w.lean) cost.1 in
    same_ahead v w (ranked v.cost w.cost Equal (sym cost.0)) (ranked v.runs w.runs Equal (sym rest.0)) (int_ranked v.lean w.lean Equal (sym rest.1))

-- so is what is no greater either way
pub neither_greater : (v w : Ahead) → ahead_cmp v w ≢ Greater → ahead_cmp w v ≢ Greater → v ≡ w
neither_greater v w h k = by_order (ahead_cmp v w) refl
  where
    by_order : (o : Ordering) → ahead_cmp v w ≡ o → v ≡ w
    by_order Less e = absurd (k (ahead_total.antisymm w v ∙ ap ordering_reverse e))
    by_order Equal e = tied v w e
    by_order Greater e = absurd (h e)

-- what is less is not no less
pub less_is_greater : (v w : Ahead) → ahead_cmp v w ≡ Less → ahead_cmp w v ≡ Greater
less_is_greater v w e = ahead_total.antisymm w v ∙ ap ordering_reverse e

-- what is less is another value
pub less_differs : (v w : Ahead) → ahead_cmp v w ≡ Less → v ≢ w
less_differs v w e same = let equal = tied_itself ahead_total v in let wrong : Less ≡ Equal = sym e ∙ ap (ahead_cmp v) (sym same) ∙ equal in cc

-- what is no greater costs no more
pub costs_no_more : (v w : Ahead) → ahead_cmp v w ≢ Greater → v.cost ≤ w.cost
costs_no_more v w h = elim (cases_lt w.cost v.cost) as (λ _. v.cost ≤ w.cost) [
  | inl more ↦ absurd (h (ap (λ o. ordering_then o (ordering_then (nat_cmp v.runs w.runs) (int_cmp v.lean w.lean))) (sym (nat_cmp_is v.cost w.cost Greater more))))
  | inr upto ↦ upto
]
