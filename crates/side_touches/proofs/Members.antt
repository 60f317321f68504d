-- The members of lists that are made of others.
use Rattle.std.proofs.Common.{ℕ, ◌+◌, ◌<◌, ◌≡◌, ◌↔◌, ◌⊎◌, suc, zero, List, [], ◌∷◌, ◌++◌, Option, Some, None, length, get_or, take, map, sym, ap, refl, ◌∙◌, subst, inl, inr, arith}
use Rattle.std.specs.Prelude.{Any, Contains, IsPermutation}
use Rattle.std.specs.List.{filter_map, cons_option}
use Rattle.std.proofs.lemmas.List.{append-nil, append_assoc, take_more}
use Rattle.std.proofs.lemmas.List.Elements.{Contains-append_left, Contains-push_cases, filter_map-append}
use Rattle.std.proofs.lemmas.List.Sorted.{Contains-permutation, IsPermutation-sym}
use Rattle.std.proofs.lemmas.List.Quantifiers.{Any-push}
use Rattle.std.proofs.lemmas.Option.{none-some, same_Some}

pub any_of : {X : Type 0} (P : X → Type 0) (xs : List X) (x : X) → Contains xs x → P x → Any P xs
any_of P xs x c p = (c.0, x, c.1, c.2, p)

pub member_of : {X : Type 0} (P : X → Type 0) (xs : List X) → (a : Any P xs) → Contains xs a.1
member_of P xs a = (a.0, a.2, a.3)

any_push : {X : Type 0} (P : X → Type 0) (xs : List X) (x : X) → Any P (xs ++ x ∷ []) ↔ (Any P xs ⊎ P x)
any_push P xs x = (
  λ a. elim (Contains-push_cases xs x a.1 (member_of P (xs ++ x ∷ []) a)) [
    | inl c ↦ inl (any_of P xs a.1 c a.4)
    | inr e ↦ inr (subst P (sym e) a.4)
  ],
  λ s. elim s [
    | inl a ↦ any_of P (xs ++ x ∷ []) a.1 (Contains-append_left xs (x ∷ []) a.1 (member_of P xs a)) a.4
    | inr p ↦ Any-push P xs x p
  ],
)

-- one more element has the property, or one before it
pub any_more : {X : Type 0} (P : X → Type 0) (xs : List X) (i : ℕ) (d : X) → i < length xs → Any P (take (i + 1) xs) ↔ (Any P (take i xs) ⊎ P (get_or xs i d))
any_more P xs i d l = subst (λ ys. Any P ys ↔ (Any P (take i xs) ⊎ P (get_or xs i d))) (sym (take_more xs i d l)) (any_push P (take i xs) (get_or xs i d))

first_or_later : {X : Type 0} (x : X) (xs : List X) (y : X) (k : ℕ) → k < length (x ∷ xs) → get_or (x ∷ xs) k y ≡ y → (x ≡ y) ⊎ Contains xs y
first_or_later x xs y zero l e = inl e
first_or_later x xs y (suc k) l e = inr (k, omega arith, e)

later : {X : Type 0} (x : X) (xs : List X) (y : X) → Contains xs y → Contains (x ∷ xs) y
later x xs y c = (suc c.0, omega (arith, c.1), c.2)

any_cons : {X : Type 0} (P : X → Type 0) (x : X) (xs : List X) → Any P (x ∷ xs) ↔ (P x ⊎ Any P xs)
any_cons P x xs = (
  λ a. elim (first_or_later x xs a.1 a.0 a.2 a.3) [
    | inl e ↦ inl (subst P (sym e) a.4)
    | inr c ↦ inr (any_of P xs a.1 c a.4)
  ],
  λ s. elim s [
    | inl p ↦ (0, x, omega arith, refl, p)
    | inr a ↦ any_of P (x ∷ xs) a.1 (later x xs a.1 (member_of P xs a)) a.4
  ],
)

added : {Y : Type 0} (o : Option Y) (ys : List Y) (y : Y) → Contains (cons_option o ys) y ↔ ((o ≡ Some y) ⊎ Contains ys y)
added None ys y = (λ c. inr c, λ s. elim s [ inl e ↦ absurd (none-some y e) | inr c ↦ c ])
added (Some z) ys y = (
  λ c. elim (first_or_later z ys y c.0 c.1 c.2) [ inl e ↦ inl (ap (λ x. Some x) e) | inr d ↦ inr d ],
  λ s. elim s [ inl e ↦ (0, omega arith, same_Some z y e) | inr c ↦ later z ys y c ],
)

-- the members of what is kept come from members
pub kept_members : {X Y : Type 0} (h : X → Option Y) (xs : List X) (y : Y) → Contains (filter_map h xs) y ↔ Any (λ x. h x ≡ Some y) xs
kept_members h [] y = (λ c. absurd (omega (arith, c.1)), λ a. absurd (omega (arith, a.2)))
kept_members h (x ∷ xs) y =
    let front = added (h x) (filter_map h xs) y in
    let rest = kept_members h xs y in
    let whole = any_cons (λ z. h z ≡ Some y) x xs in (
      λ c. whole.1 (elim (front.0 c) [ inl e ↦ inl e | inr d ↦ inr (rest.0 d) ]),
      λ a. front.1 (elim (whole.0 a) [ inl e ↦ inl e | inr b ↦ inr (rest.1 b) ]),
    )

-- the members of an image come from members
pub image_members : {X Y : Type 0} (f : X → Y) (xs : List X) (y : Y) → Contains (map f xs) y ↔ Any (λ x. f x ≡ y) xs
image_members f [] y = (λ c. absurd (omega (arith, c.1)), λ a. absurd (omega (arith, a.2)))
image_members f (x ∷ xs) y =
    let rest = image_members f xs y in
    let whole = any_cons (λ z. f z ≡ y) x xs in (
      λ c. whole.1 (elim (first_or_later (f x) (map f xs) y c.0 c.1 c.2) [ inl e ↦ inl e | inr d ↦ inr (rest.0 d) ]),
      λ a. elim (whole.0 a) [ inl e ↦ (0, omega arith, e) | inr b ↦ later (f x) (map f xs) y (rest.1 b) ],
    )

-- the same members in another order
pub moved_members : {X : Type 0} (xs ys : List X) (y : X) → IsPermutation xs ys → Contains ys y ↔ Contains xs y
moved_members xs ys y m = (Contains-permutation ys xs y (IsPermutation-sym xs ys m), Contains-permutation xs ys y m)

kept_more : {X Y : Type 0} (h : X → Option Y) (xs : List X) (i : ℕ) (d : X) → i < length xs → filter_map h (take (i + 1) xs) ≡ filter_map h (take i xs) ++ cons_option (h (get_or xs i d)) []
kept_more h xs i d l = ap (filter_map h) (take_more xs i d l) ∙ filter_map-append h (take i xs) (get_or xs i d ∷ [])

-- a loop that pushes what is kept
pub pushed_more : {X Y : Type 0} (h : X → Option Y) (xs : List X) (i : ℕ) (d : X) (was now : List Y) (y : Y) → i < length xs → now ≡ was ++ filter_map h (take i xs) → h (get_or xs i d) ≡ Some y → now ++ y ∷ [] ≡ was ++ filter_map h (take (i + 1) xs)
pushed_more h xs i d was now y l e k =
    ap (λ zs. zs ++ y ∷ []) e ∙ append_assoc was (filter_map h (take i xs)) (y ∷ [])
    ∙ ap (λ zs. was ++ zs) (sym (kept_more h xs i d l ∙ ap (λ o. filter_map h (take i xs) ++ cons_option o []) k))

pub pushed_same : {X Y : Type 0} (h : X → Option Y) (xs : List X) (i : ℕ) (d : X) (was now : List Y) → i < length xs → now ≡ was ++ filter_map h (take i xs) → h (get_or xs i d) ≡ None → now ≡ was ++ filter_map h (take (i + 1) xs)
pushed_same h xs i d was now l e k =
    e ∙ ap (λ zs. was ++ zs) (sym (kept_more h xs i d l ∙ ap (λ o. filter_map h (take i xs) ++ cons_option o []) k ∙ append-nil (filter_map h (take i xs))))
