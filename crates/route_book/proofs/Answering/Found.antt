-- Entries with different keys are found by them.
use Rattle.std.proofs.Common.{◌≡◌, ◌≢◌, Bool, true, false, cond, Some, List, [], ◌∷◌, refl, ap}
use Rattle.std.specs.Prelude.{find, Decides}
use Rattle.std.specs.List.{AllByRecursion as Each}
use Rattle.scene_model.proofs.Editing.Entries.{Differ, each_both, each_weaker}

module _ {X K : Type 0} (key : X → K) (eq : K → K → Bool) (same : (a b : K) → Decides (eq a b) (a ≡ b)) where
  later_by : (x y : X) (ys : List X) (b : Bool) → eq (key x) (key y) ≡ b → key x ≢ key y → find (λ z. eq (key z) (key y)) ys ≡ Some y
      → cond b (Some x) (find (λ z. eq (key z) (key y)) ys) ≡ Some y
  later_by x y ys true e n h = absurd (n ((same (key x) (key y)).0 e))
  later_by x y ys false e n h = h

  pub each_found : (xs : List X) → Differ key eq same xs → Each (λ y. find (λ z. eq (key z) (key y)) xs ≡ Some y) xs
  each_found [] d = tt
  each_found (x ∷ xs) d = (
    ap (λ b. cond b (Some x) (find (λ z. eq (key z) (key x)) xs)) ((same (key x) (key x)).1 refl),
    each_weaker (λ y. (key x ≢ key y) × (find (λ z. eq (key z) (key y)) xs ≡ Some y)) (λ y. find (λ z. eq (key z) (key y)) (x ∷ xs) ≡ Some y)
        (λ y h. later_by x y xs (eq (key x) (key y)) refl h.0 h.1) xs
        (each_both (λ y. key x ≢ key y) (λ y. find (λ z. eq (key z) (key y)) xs ≡ Some y) xs d.0 (each_found xs d.1)),
  )
