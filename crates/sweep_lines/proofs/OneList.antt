-- Two lists in strict order with the same members are one.
use Rattle.std.proofs.Common.{◌≡◌, inl, inr, true, List, [], ◌∷◌, refl, sym, subst, ◌∙◌}
use Rattle.std.specs.List.{AllByRecursion}
use Rattle.std.proofs.lemmas.List.Elements.{All-contains}
use Rattle.plane_geom.specs.declared.floor.Line.{Line}
use Rattle.plane_geom.specs.declared.floor.Floor.{Floor}
use Rattle.plane_geom.specs.Floor.{IsKept}
use Rattle.sweep_lines.specs.Kept.{AreKept}
use Rattle.plane_geom.specs.Order.{stands_before}
use Rattle.plane_geom.proofs.Order.{never_both}
use Rattle.sweep_lines.proofs.Members.{Among, among_of_contains, contains_of_among, all_among, Rising, rising_of_pairs}

module _ {X : Type 0} (R : X → X → Type 0) (one_way : (x y : X) → R x y → R y x → ⊥) where
  same_first : (x y : X) (xs ys : List X) → AllByRecursion (R x) xs → AllByRecursion (R y) ys → Among x (y ∷ ys) → Among y (x ∷ xs) → x ≡ y
  same_first x y xs ys a b (inl e) j = e
  same_first x y xs ys a b (inr i) (inl e) = sym e
  same_first x y xs ys a b (inr i) (inr j) = absurd (one_way x y (all_among (R x) xs a y j) (all_among (R y) ys b x i))

  among_rest : (x y z : X) (xs ys : List X) → x ≡ y → AllByRecursion (R x) xs → Among z xs → Among z (y ∷ ys) → Among z ys
  among_rest x y z xs ys e a i (inl h) =
      let r : R x z = all_among (R x) xs a z i in
      let s : R x x = subst (R x) (h ∙ sym e) r in
      absurd (one_way x x s s)
  among_rest x y z xs ys e a i (inr h) = h

  pub one_list : (xs ys : List X) → Rising R xs → Rising R ys → ((x : X) → Among x xs → Among x ys) → ((x : X) → Among x ys → Among x xs) → xs ≡ ys
  one_list [] [] a b f g = refl
  one_list [] (y ∷ ys) a b f g = absurd (g y (inl refl))
  one_list (x ∷ xs) [] a b f g = absurd (f x (inl refl))
  one_list (x ∷ xs) (y ∷ ys) a b f g =
      let e = same_first x y xs ys a.0 b.0 (f x (inl refl)) (g y (inl refl)) in
      let rest = one_list xs ys a.1 b.1
      (λ z i. among_rest x y z xs ys e a.0 i (f z (inr i)))
      (λ z i. among_rest y x z ys xs (sym e) b.0 i (g z (inr i))) in
      (λ i. e i ∷ rest i)

pub one_list_of_kept : (floor : Floor) (IsAsked : Line → Type 0) (ls ms : List Line) → AreKept floor IsAsked ls → AreKept floor IsAsked ms → ls ≡ ms
one_list_of_kept floor IsAsked ls ms a b =
    one_list (λ l m. stands_before l m ≡ true) never_both ls ms
    (rising_of_pairs _ ls a.ordered) (rising_of_pairs _ ms b.ordered)
    (λ l i. let k = All-contains (λ l. IsKept floor l × IsAsked l) ls l a.kept (contains_of_among ls l i) in among_of_contains ms l (b.all l k.0 k.1))
    (λ l i. let k = All-contains (λ l. IsKept floor l × IsAsked l) ms l b.kept (contains_of_among ms l i) in among_of_contains ls l (a.all l k.0 k.1))
