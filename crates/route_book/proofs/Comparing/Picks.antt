-- Elements that pass a test, and facts of them.
use Rattle.std.proofs.Common.{◌≡◌, ℕ, ◌<◌, Bool, true, List, length, get_or, sym, subst}
use Rattle.std.specs.Prelude.{All, Any, Contains, filter}
use Rattle.std.proofs.lemmas.List.Elements.{All-from_recursion, All-contains, All-filter, filter_passes}
use Rattle.scene_store.proofs.Tasks.{passing}

-- where the fact holds of no element that passes, it holds of none of those that are left
pub none_passing : {X : Type 0} (p : X → Bool) (P : X → Type 0) (xs : List X) → All (λ x. p x ≡ true → P x → ⊥) xs → (x : X) → Contains (filter p xs) x → P x → ⊥
none_passing p P xs none x has =
    All-contains (λ y. p y ≡ true → P y → ⊥) (filter p xs) x (All-filter p (λ y. p y ≡ true → P y → ⊥) xs none) has
    (All-contains (λ y. p y ≡ true) (filter p xs) x (filter_passes p xs) has)

-- an element that passes is left
pub one_passing : {X : Type 0} (p : X → Bool) (xs : List X) (i : ℕ) (x : X) → i < length xs → x ≡ get_or xs i x → p x ≡ true → Contains (filter p xs) x
one_passing p xs i x l at h =
    subst (λ y. p y ≡ true → Contains (filter p xs) y) (sym at)
    (All-from_recursion (λ y. p y ≡ true → Contains (filter p xs) y) xs (passing p xs) i x l) h

-- where the fact holds of none, it holds of no one
pub none_of : {X : Type 0} (P : X → Type 0) (xs : List X) → All (λ x. P x → ⊥) xs → Any P xs → ⊥
none_of P xs none (k, x, l, at, p) = All-contains (λ y. P y → ⊥) xs x none (k, l, at) p
