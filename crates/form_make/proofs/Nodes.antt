-- The generated nodes have the ids from 1 on.
use Rattle.std.proofs.Common.{◌≡◌, ◌≢◌, inl, inr, ℕ, zero, suc, ◌+◌, ◌<◌, ◌≤◌, Bool, true, false, cond, [], ◌∷◌, ◌++◌, Option, Some, None, refl, ap, ◌∙◌, arith}
use Rattle.std.specs.Prelude.{pos, find}
use Rattle.std.specs.Ordering.{int_eq}
use Rattle.std.specs.Option.{option_or}
use Rattle.std.proofs.lemmas.Bool.Decides.{Decides-int_eq}
use Rattle.std.proofs.lemmas.List.Folds.{find-append}
use Rattle.std.proofs.Math.Nat.{eq-or-lt_of_le}
use Rattle.scene_model.specs.declared.node.Node.{Node}
use Rattle.form_make.specs.Draws.{first}
use Rattle.form_make.specs.Made.{made_node}

-- whether a node has the id at the place
abbrev pub is_at : ℕ → Node → Bool
is_at place n = int_eq n.id (pos (place + 1))

not_same : (b : Bool) (P : Type 0) → (b ≡ true → P) → (P → ⊥) → b ≡ false
not_same true P into never = absurd (never (into refl))
not_same false P into never = refl

pos_same : (m n : ℕ) → pos m ≡ pos n → m ≡ n
pos_same m n e = cc

-- two places have two ids
pub other_ids : (m n : ℕ) → m ≢ n → int_eq (pos (m + 1)) (pos (n + 1)) ≡ false
other_ids m n differ = not_same (int_eq (pos (m + 1)) (pos (n + 1))) (pos (m + 1) ≡ pos (n + 1)) (Decides-int_eq (pos (m + 1)) (pos (n + 1))).0
    (λ e. let same = pos_same (m + 1) (n + 1) e in differ (omega (arith, same)))

own_id : (n : ℕ) → int_eq (pos (n + 1)) (pos (n + 1)) ≡ true
own_id n = (Decides-int_eq (pos (n + 1)) (pos (n + 1))).1 refl

found_last : (seed place count : ℕ) (b : Bool) (before : Option Node) → is_at place (made_node seed count) ≡ b → find (is_at place) (first count (made_node seed)) ≡ before
    → find (is_at place) (first count (made_node seed) ++ made_node seed count ∷ []) ≡ option_or before (cond b (Some (made_node seed count)) None)
found_last seed place count b before here there =
    find-append (is_at place) (first count (made_node seed)) (made_node seed count ∷ [])
    ∙ ap (λ o. option_or o (cond (is_at place (made_node seed count)) (Some (made_node seed count)) None)) there
    ∙ ap (λ x. option_or before (cond x (Some (made_node seed count)) None)) here

-- no node at an earlier place has the id
pub no_node : (seed place count : ℕ) → count ≤ place → find (is_at place) (first count (made_node seed)) ≡ None
unfolding first
no_node seed place zero h = refl
no_node seed place (suc count) h =
    let here = other_ids count place (λ e. absurd (omega (arith, e, h))) in
    found_last seed place count false None here (no_node seed place count (omega arith))

found_here : (seed place count : ℕ) → place ≡ count → find (is_at place) (first count (made_node seed) ++ made_node seed count ∷ []) ≡ Some (made_node seed place)
found_here seed place count e = rw e (found_last seed count count true None (own_id count) (no_node seed count count (omega arith)))

-- the node at the place has it
pub has_node : (seed place count : ℕ) → place < count → find (is_at place) (first count (made_node seed)) ≡ Some (made_node seed place)
unfolding first
has_node seed place zero h = absurd (omega arith)
has_node seed place (suc count) h =
    let low : place ≤ count = omega arith in
    elim (eq-or-lt_of_le low) [
      | inl same ↦ found_here seed place count same
      | inr less ↦ found_last seed place count false (Some (made_node seed place)) (other_ids count place (λ e. absurd (omega (arith, e, less)))) (has_node seed place count less)
    ]
