-- One list at most has all shared paths in order.
use Rattle.std.proofs.Common.{◌≡◌, suc, List, [], ◌∷◌, map, inl, inr, refl, sym, ap, ◌∙◌, subst, arith}
use Rattle.std.specs.Prelude.{AllPairs, Contains}
use Rattle.std.proofs.lemmas.List.Elements.{All-contains}
use Rattle.shared_paths.specs.Listed.{PairedPath, HaveOneListOfPaths, IsPairedPath, StandsBefore, path_of}
use Rattle.shared_paths.proofs.AllPaths.Starting.{behind_first, in_cons}

-- two lists in a strict order with the same elements are one
module _ {X : Type 0} (R : X → X → Type 0) (apart : (x y : X) → R x y → R y x → ⊥) where
  first_before : (x : X) (xs : List X) (y : X) → AllPairs R (x ∷ xs) → Contains xs y → R x y
  first_before x xs y order (k, l, at) = subst (R x) at (order 0 (suc k) y (omega arith) (omega arith))

  rest_in_order : (x : X) (xs : List X) → AllPairs R (x ∷ xs) → AllPairs R xs
  rest_in_order x xs order = λ i j d l h. order (suc i) (suc j) d (omega arith) (omega arith)

  same_first : (x : X) (xs : List X) (y : X) (ys : List X) → AllPairs R (x ∷ xs) → AllPairs R (y ∷ ys) → Contains (y ∷ ys) x → Contains (x ∷ xs) y → x ≡ y
  same_first x xs y ys one other there here = elim (in_cons y ys x there) as (λ _. x ≡ y) [
    | inl e ↦ sym e
    | inr h ↦ (elim (in_cons x xs y here) as (λ _. x ≡ y) [
      | inl e ↦ e
      | inr k ↦ absurd (apart x y (first_before x xs y one k) (first_before y ys x other h))
    ])
  ]

  in_rest : (x : X) (xs : List X) (y : X) (ys : List X) → AllPairs R (x ∷ xs) → x ≡ y → ((z : X) → Contains (x ∷ xs) z → Contains (y ∷ ys) z) → (z : X) → Contains xs z → Contains ys z
  in_rest x xs y ys one same there z h = elim (in_cons y ys z (there z (behind_first x xs z h))) as (λ _. Contains ys z) [
    | inl e ↦ (let before : R x z = first_before x xs z one h in
        let is : x ≡ z = same ∙ e in
        absurd (apart x z before (subst (λ w. R w x) is (subst (λ w. R x w) (sym is) before))))
    | inr k ↦ k
  ]

  nothing : (x : X) → Contains [] x → ⊥
  nothing x (k, l, at) = absurd (omega arith)

  pub one_list : (xs ys : List X) → AllPairs R xs → AllPairs R ys → ((z : X) → Contains xs z → Contains ys z) → ((z : X) → Contains ys z → Contains xs z) → xs ≡ ys
  one_list [] [] one other there here = refl
  one_list [] (y ∷ ys) one other there here = absurd (nothing y (here y (0, omega arith, refl)))
  one_list (x ∷ xs) [] one other there here = absurd (nothing x (there x (0, omega arith, refl)))
  one_list (x ∷ xs) (y ∷ ys) one other there here =
      let same = same_first x xs y ys one other (there x (0, omega arith, refl)) (here y (0, omega arith, refl)) in
      let rest = one_list xs ys (rest_in_order x xs one) (rest_in_order y ys other)
      (in_rest x xs y ys one same there) (in_rest y ys x xs other (sym same) here) in
      ap (λ z. z ∷ xs) same ∙ ap (λ zs. y ∷ zs) rest

not_both : (f g : PairedPath) → StandsBefore f g → StandsBefore g f → ⊥
not_both f g (inl a) (inl b) = omega arith
not_both f g (inl a) (inr (b, h)) = omega arith
not_both f g (inr (a, h)) (inl b) = omega arith
not_both f g (inr (a, inl c)) (inr (b, inl d)) = omega arith
not_both f g (inr (a, inl c)) (inr (b, inr (d, h))) = omega arith
not_both f g (inr (a, inr (c, h))) (inr (b, inl d)) = omega arith
not_both f g (inr (a, inr (c, inl p))) (inr (b, inr (d, inl q))) = omega arith
not_both f g (inr (a, inr (c, inl p))) (inr (b, inr (d, inr (q, h)))) = omega arith
not_both f g (inr (a, inr (c, inr (p, h)))) (inr (b, inr (d, inl q))) = omega arith
not_both f g (inr (a, inr (c, inr (p, h)))) (inr (b, inr (d, inr (q, k)))) = omega arith

pub one_list_of_paths : HaveOneListOfPaths
one_list_of_paths routes these those one other =
    let same : one.paired ≡ other.paired =
    one_list StandsBefore not_both one.paired other.paired one.in_order other.in_order
    (λ f h. other.all f (All-contains (IsPairedPath routes) one.paired f one.each h))
    (λ f h. one.all f (All-contains (IsPairedPath routes) other.paired f other.each h)) in
    one.are_paths ∙ ap (map (path_of routes)) same ∙ sym other.are_paths
