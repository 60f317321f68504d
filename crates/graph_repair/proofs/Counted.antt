-- A finite map has as many entries as a list has elements that each stand for one entry.
use Rattle.std.proofs.Common.{◌≡◌, ◌≢◌, inl, inr, ℕ, zero, suc, ◌-◌, cond, List, [], ◌∷◌, length, Option, Some, None, is_some, refl, sym, ap, subst, ◌∙◌, arith}
use Rattle.std.specs.Ordering.{nat_cmp}
use Rattle.std.specs.FinMap.{FinMap, get, len, remove, empty, same_map, get-empty, get-remove, len-empty, len-remove, empty_of_len, nat_cmp-IsAntisymmetric}
use Rattle.std.proofs.lemmas.Bool.{cases_eq}
use Rattle.std.proofs.lemmas.Cmp.{nat_cmp_total}
use Rattle.line_arena.proofs.Arenas.Seen.{tied, untied}
use Rattle.sweep_lines.proofs.Members.{Among, Rising, all_among}
use Rattle.visibility_graph.proofs.Lines.{not_none, same_some}

-- no element stands twice
abbrev pub AreDistinct : {Y : Type 0} → List Y → Type 0
AreDistinct ys = Rising (λ y z. y ≢ z) ys

-- the entries of the map and the elements of the list stand for each other
pub record Match {X Y : Type 0} (Is : X → Y → Type 0) (m : FinMap nat_cmp X) (ys : List Y) : Type 0 where
  pub listed : (i : ℕ) (x : X) → get m i ≡ Some x → (y : Y) × Among y ys × Is x y
  pub there : (y : Y) → Among y ys → (i : ℕ) × (x : X) × (get m i ≡ Some x) × Is x y
  pub one_element : (x : X) (y z : Y) → Is x y → Is x z → y ≡ z
  pub one_entry : (i j : ℕ) (x w : X) (y : Y) → get m i ≡ Some x → get m j ≡ Some w → Is x y → Is w y → i ≡ j

none_is : {X : Type 0} (o : Option X) → ((x : X) → o ≡ Some x → ⊥) → o ≡ None
none_is None f = refl
none_is (Some x) f = absurd (f x refl)

-- what is left where one entry goes
pub removed : {X : Type 0} (m : FinMap nat_cmp X) (i j : ℕ) (w : X) → get (remove m i) j ≡ Some w → (j ≢ i) × (get m j ≡ Some w)
removed m i j w g =
    let law = get-remove nat_cmp_total m i j in
    elim (cases_eq j i) as (λ _. (j ≢ i) × (get m j ≡ Some w)) [
      | inl e ↦ absurd (not_none w (sym (law ∙ ap (λ b. cond b None (get m j)) (tied j i e)) ∙ g))
      | inr ne ↦ (ne, sym (law ∙ ap (λ b. cond b None (get m j)) (untied j i ne)) ∙ g)
    ]

pub left : {X : Type 0} (m : FinMap nat_cmp X) (i j : ℕ) (w : X) → j ≢ i → get m j ≡ Some w → get (remove m i) j ≡ Some w
left m i j w ne g = get-remove nat_cmp_total m i j ∙ ap (λ b. cond b None (get m j)) (untied j i ne) ∙ g

pub some_len : {X : Type 0} (m : FinMap nat_cmp X) (i : ℕ) (x : X) (n : ℕ) → get m i ≡ Some x → len m ≡ n → (n ≡ 0 → ⊥)
some_len m i x n g e z = not_none x (sym (get-empty nat_cmp i) ∙ ap (λ a. get a i) (sym (empty_of_len m (e ∙ z))) ∙ g)

one_more : (a n : ℕ) → (a ≡ 0 → ⊥) → a - 1 ≡ n → a ≡ suc n
one_more zero n f e = absurd (f refl)
one_more (suc a) n f e = omega arith

pub less_one : {X : Type 0} (m : FinMap nat_cmp X) (i : ℕ) (x : X) → get m i ≡ Some x → len (remove m i) ≡ len m - 1
less_one m i x g = len-remove nat_cmp_total m i ∙ ap (λ o. cond (is_some o) (len m - 1) (len m)) g

rest_matches : {X Y : Type 0} (Is : X → Y → Type 0) (m : FinMap nat_cmp X) (y : Y) (ys : List Y) (i : ℕ) (x : X) → (Among y ys → ⊥) →
    get m i ≡ Some x → Is x y → Match Is m (y ∷ ys) → Match Is (remove m i) ys
rest_matches Is m y ys i x new at is h = record {
  listed = λ j w g.
      let k = removed m i j w g in
      let l = h.listed j w k.1 in
      elim l.1 as (λ _. (z : _) × Among z ys × Is w z) [
        | inl e ↦ absurd (k.0 (h.one_entry j i w x y k.1 at (subst (Is w) e l.2) is))
        | inr a ↦ (l.0, a, l.2)
      ];
  there = λ z a.
      let l = h.there z (inr a) in
      elim (cases_eq l.0 i) as (λ _. (j : ℕ) × (w : _) × (get (remove m i) j ≡ Some w) × Is w z) [
        | inl e ↦ absurd (
            let same : l.1 ≡ x = same_some l.1 x (sym l.2 ∙ ap (get m) e ∙ at) in
            let one = h.one_element x z y (subst (λ w. Is w z) same l.3) is in
            new (subst (λ v. Among v ys) one a))
        | inr ne ↦ (l.0, l.1, left m i l.0 l.1 ne l.2, l.3)
      ];
  one_element = h.one_element;
  one_entry = λ j k w v z g f. h.one_entry j k w v z (removed m i j w g).1 (removed m i k v f).1;
}

pub counted : {X Y : Type 0} (Is : X → Y → Type 0) (m : FinMap nat_cmp X) (ys : List Y) → AreDistinct ys → Match Is m ys → len m ≡ length ys
counted {X} Is m [] d h =
    ap len (same_map nat_cmp_total nat_cmp-IsAntisymmetric m empty (λ q. none_is (get m q) (λ x e. (h.listed q x e).1) ∙ sym (get-empty nat_cmp q)))
    ∙ len-empty nat_cmp X
counted {X} {Y} Is m (y ∷ ys) d h =
    let e = h.there y (inl refl) in
    let later = counted Is (remove m e.0) ys d.1 (rest_matches Is m y ys e.0 e.1 (λ a. all_among (λ z. y ≢ z) ys d.0 y a refl) e.2 e.3 h) in
    one_more (len m) (length ys) (λ z. some_len m e.0 e.1 (len m) e.2 refl z) (sym (less_one m e.0 e.1 e.2) ∙ later)
