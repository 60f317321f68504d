-- What a queue has: without items, and once an item is added or removed.
use Rattle.std.proofs.Common.{◌≡◌, ◌⊎◌, ◌+◌, ◌≤◌, zero, suc, List, [], ◌∷◌, refl, sym, subst, inl, inr, arith}
use Rattle.std.specs.Prelude.{All, Contains, IsPermutation, length}
use Rattle.std.proofs.lemmas.List.Elements.{All-nil, All-tail, Contains-append_right}
use Rattle.std.proofs.lemmas.List.Sorted.{All-permutation, Contains-permutation, length_permutation}

-- there is no item
module _ {X : Type 0} (xs : List X) (none : xs ≡ []) where
  pub none_all : (P : X → Type 0) → All P xs
  none_all P = subst (All P) (sym none) (All-nil P)

  pub none_has : (x : X) → Contains xs x → ⊥
  none_has x has = let in_none : Contains [] x = subst (λ ys. Contains ys x) none has in omega (arith, in_none.1)

-- the item is added
module _ {X : Type 0} (x : X) (old new : List X) (moved : IsPermutation (x ∷ old) new) where
  pub push_keeps : (y : X) → Contains old y → Contains new y
  push_keeps y has = Contains-permutation (x ∷ old) new y moved (Contains-append_right (x ∷ []) old y has)

  pub push_has : Contains new x
  push_has = Contains-permutation (x ∷ old) new x moved (zero, omega arith, refl)

  pub push_all : (P : X → Type 0) → All P old → P x → All P new
  push_all P all one = All-permutation P (x ∷ old) new moved (both P all one)
    where
      both : (P : X → Type 0) → All P old → P x → All P (x ∷ old)
      both P all one zero d lt = one
      both P all one (suc k) d lt = all k d (omega (arith, lt))

  pub push_count : length new ≤ length old + 1
  push_count = let same = length_permutation (x ∷ old) new moved in omega (arith, same)

first_or_rest : {X : Type 0} (x : X) (xs : List X) (y : X) → Contains (x ∷ xs) y → Contains xs y ⊎ (y ≡ x)
first_or_rest x xs y (zero, lt, e) = inr (sym e)
first_or_rest x xs y (suc k, lt, e) = inl (k, omega (arith, lt), e)

-- the item is removed
module _ {X : Type 0} (x : X) (old new : List X) (moved : IsPermutation old (x ∷ new)) where
  pub pop_or_rest : (y : X) → Contains old y → Contains new y ⊎ (y ≡ x)
  pop_or_rest y has = first_or_rest x new y (Contains-permutation old (x ∷ new) y moved has)

  pub pop_one : (P : X → Type 0) → All P old → P x
  pop_one P all = All-permutation P old (x ∷ new) moved all 0 x (omega arith)

  pub pop_all : (P : X → Type 0) → All P old → All P new
  pop_all P all = All-tail P x new (All-permutation P old (x ∷ new) moved all)

  pub pop_count : length old ≡ length new + 1
  pop_count = let same = length_permutation old (x ∷ new) moved in omega (arith, same)
