-- Membership and order in lists, by recursion.
use Rattle.std.proofs.Common.{◌≡◌, ◌⊎◌, inl, inr, ℕ, zero, suc, ◌<◌, Bool, true, false, cond, List, [], ◌∷◌, ◌++◌, map, length, get_or, refl, sym, ap, subst, ◌∙◌, arith, Contains}
use Rattle.std.specs.Prelude.{filter, AllPairs, Any, Some, slice_get}
use Rattle.std.specs.List.{AllByRecursion}
use Rattle.std.proofs.lemmas.List.Elements.{All-from_recursion, recursion_from_All}

abbrev pub Among : {X : Type 0} → X → List X → Type 0
Among x [] = ⊥
Among x (y ∷ ys) = (x ≡ y) ⊎ Among x ys

among_at : {X : Type 0} (xs : List X) (k : ℕ) (x : X) → k < length xs → get_or xs k x ≡ x → Among x xs
among_at [] k x h e = absurd (omega arith)
among_at (y ∷ ys) zero x h e = inl (sym e)
among_at (y ∷ ys) (suc k) x h e = inr (among_at ys k x (omega arith) e)

pub among_of_contains : {X : Type 0} (xs : List X) (x : X) → Contains xs x → Among x xs
among_of_contains xs x c = among_at xs c.0 x c.1 c.2

pub contains_of_among : {X : Type 0} (xs : List X) (x : X) → Among x xs → Contains xs x
contains_of_among [] x h = absurd h
contains_of_among (y ∷ ys) x (inl e) = (zero, omega arith, sym e)
contains_of_among (y ∷ ys) x (inr h) = let c = contains_of_among ys x h in (suc c.0, omega (arith, c.1), c.2)

pub all_among : {X : Type 0} (P : X → Type 0) (xs : List X) → AllByRecursion P xs → (x : X) → Among x xs → P x
all_among P [] a x h = absurd h
all_among P (y ∷ ys) a x (inl e) = subst P (sym e) a.0
all_among P (y ∷ ys) a x (inr h) = all_among P ys a.1 x h

pub among_all : {X : Type 0} (P : X → Type 0) (xs : List X) → ((x : X) → Among x xs → P x) → AllByRecursion P xs
among_all P [] h = tt
among_all P (y ∷ ys) h = (h y (inl refl), among_all P ys (λ x i. h x (inr i)))

pub any_of_among : {X : Type 0} (P : X → Type 0) (xs : List X) (x : X) → Among x xs → P x → Any P xs
any_of_among P xs x h p = let c = contains_of_among xs x h in (c.0, x, c.1, c.2, p)

pub among_of_any : {X : Type 0} (P : X → Type 0) (xs : List X) → (a : Any P xs) → Among a.1 xs
among_of_any P xs a = among_at xs a.0 a.1 a.2 a.3

among_cond : {X : Type 0} (b : Bool) (x y : X) (zs : List X) → Among x zs → Among x (cond b (y ∷ zs) zs)
among_cond true x y zs h = inr h
among_cond false x y zs h = h

among_head : {X : Type 0} (b : Bool) (x y : X) (zs : List X) → b ≡ true → x ≡ y → Among x (cond b (y ∷ zs) zs)
among_head true x y zs e h = inl h
among_head false x y zs e h = absurd (cc)

cond_cases : {X : Type 0} (b : Bool) (x y : X) (zs : List X) → Among x (cond b (y ∷ zs) zs) → ((x ≡ y) × (b ≡ true)) ⊎ Among x zs
cond_cases true x y zs (inl h) = inl (h, refl)
cond_cases true x y zs (inr h) = inr h
cond_cases false x y zs h = inr h

pub among_filter : {X : Type 0} (p : X → Bool) (xs : List X) (x : X) → Among x xs → p x ≡ true → Among x (filter p xs)
among_filter p [] x h e = h
among_filter p (y ∷ ys) x (inl h) e = among_head (p y) x y (filter p ys) (ap p (sym h) ∙ e) h
among_filter p (y ∷ ys) x (inr h) e = among_cond (p y) x y (filter p ys) (among_filter p ys x h e)

pub among_filtered : {X : Type 0} (p : X → Bool) (xs : List X) (x : X) → Among x (filter p xs) → Among x xs × (p x ≡ true)
among_filtered p [] x h = absurd h
among_filtered p (y ∷ ys) x h = elim (cond_cases (p y) x y (filter p ys) h) [
  | inl e ↦ (inl e.0, ap p e.0 ∙ e.1)
  | inr r ↦ (let q = among_filtered p ys x r in (inr q.0, q.1))
]

pub among_map : {X Y : Type 0} (f : X → Y) (xs : List X) (x : X) → Among x xs → Among (f x) (map f xs)
among_map f [] x h = h
among_map f (y ∷ ys) x (inl e) = inl (ap f e)
among_map f (y ∷ ys) x (inr h) = inr (among_map f ys x h)

pub among_mapped : {X Y : Type 0} (f : X → Y) (xs : List X) (y : Y) → Among y (map f xs) → (x : X) × Among x xs × (y ≡ f x)
among_mapped f [] y h = absurd h
among_mapped f (x ∷ xs) y (inl e) = (x, inl refl, e)
among_mapped f (x ∷ xs) y (inr h) = let r = among_mapped f xs y h in (r.0, inr r.1, r.2)

-- each element is in the relation to all later ones
abbrev pub Rising : {X : Type 0} → (X → X → Type 0) → List X → Type 0
Rising R [] = Unit {0}
Rising R (x ∷ xs) = AllByRecursion (R x) xs × Rising R xs

pub rising_of_pairs : {X : Type 0} (R : X → X → Type 0) (xs : List X) → AllPairs R xs → Rising R xs
rising_of_pairs R [] h = tt
rising_of_pairs R (x ∷ xs) h = (
  recursion_from_All (R x) xs (λ k d l. h zero (suc k) d (omega arith) (omega arith)),
  rising_of_pairs R xs (λ i j d l k. h (suc i) (suc j) d (omega arith) (omega arith)),
)

pub pairs_of_rising : {X : Type 0} (R : X → X → Type 0) (xs : List X) → Rising R xs → (i j : ℕ) (d : X) → i < j → j < length xs → R (get_or xs i d) (get_or xs j d)
pairs_of_rising R [] h i j d l k = absurd (omega arith)
pairs_of_rising R (x ∷ xs) h i zero d l k = absurd (omega arith)
pairs_of_rising R (x ∷ xs) h zero (suc j) d l k = All-from_recursion (R x) xs h.0 j d (omega arith)
pairs_of_rising R (x ∷ xs) h (suc i) (suc j) d l k = pairs_of_rising R xs h.1 i j d (omega arith) (omega arith)

all_joined : {X : Type 0} (P : X → Type 0) (xs ys : List X) → AllByRecursion P xs → AllByRecursion P ys → AllByRecursion P (xs ++ ys)
all_joined P [] ys a b = b
all_joined P (x ∷ xs) ys a b = (a.0, all_joined P xs ys a.1 b)

pub rising_joined : {X : Type 0} (R : X → X → Type 0) (xs ys : List X) → Rising R xs → Rising R ys → ((x y : X) → Among x xs → Among y ys → R x y) → Rising R (xs ++ ys)
rising_joined R [] ys a b h = b
rising_joined R (x ∷ xs) ys a b h = (
  all_joined (R x) xs ys a.0 (among_all (R x) ys (λ y i. h x y (inl refl) i)),
  rising_joined R xs ys a.1 b (λ u v i j. h u v (inr i) j),
)

all_filtered : {X : Type 0} (P : X → Type 0) (p : X → Bool) (xs : List X) → AllByRecursion P xs → AllByRecursion P (filter p xs)
all_filtered P p xs a = among_all P (filter p xs) (λ x i. all_among P xs a x (among_filtered p xs x i).0)

rising_cond : {X : Type 0} (R : X → X → Type 0) (b : Bool) (x : X) (xs : List X) → AllByRecursion (R x) xs → Rising R xs → Rising R (cond b (x ∷ xs) xs)
rising_cond R true x xs a r = (a, r)
rising_cond R false x xs a r = r

pub rising_filter : {X : Type 0} (R : X → X → Type 0) (p : X → Bool) (xs : List X) → Rising R xs → Rising R (filter p xs)
rising_filter R p [] r = tt
rising_filter R p (x ∷ xs) r = rising_cond R (p x) x (filter p xs) (all_filtered (R x) p xs r.0) (rising_filter R p xs r.1)

all_mapped : {X Y : Type 0} (P : Y → Type 0) (f : X → Y) (xs : List X) → AllByRecursion (λ x. P (f x)) xs → AllByRecursion P (map f xs)
all_mapped P f [] a = tt
all_mapped P f (x ∷ xs) a = (a.0, all_mapped P f xs a.1)

pub rising_map : {X Y : Type 0} (R : Y → Y → Type 0) (f : X → Y) (xs : List X) → Rising (λ x y. R (f x) (f y)) xs → Rising R (map f xs)
rising_map R f [] r = tt
rising_map R f (x ∷ xs) r = (all_mapped (R (f x)) f xs r.0, rising_map R f xs r.1)

-- numbers of elements
pub among_number : {X : Type 0} (xs : List X) (x : X) → Among x xs → (k : ℕ) × (slice_get xs k ≡ Some x)
among_number [] x h = absurd h
among_number (y ∷ ys) x (inl e) = (zero, ap Some (sym e))
among_number (y ∷ ys) x (inr h) = let r = among_number ys x h in (suc r.0, r.1)

pub numbered_among : {X : Type 0} (xs : List X) (k : ℕ) (x : X) → slice_get xs k ≡ Some x → Among x xs
numbered_among [] k x e = absurd (cc)
numbered_among (y ∷ ys) zero x e = inl (cc)
numbered_among (y ∷ ys) (suc k) x e = inr (numbered_among ys k x e)

pub number_map : {X Y : Type 0} (f : X → Y) (xs : List X) (k : ℕ) (x : X) → slice_get xs k ≡ Some x → slice_get (map f xs) k ≡ Some (f x)
number_map f [] k x e = absurd (cc)
number_map f (y ∷ ys) zero x e = let h : y ≡ x = cc in ap (λ z. Some (f z)) h
number_map f (y ∷ ys) (suc k) x e = number_map f ys k x e

pub number_mapped : {X Y : Type 0} (f : X → Y) (xs : List X) (k : ℕ) (y : Y) → slice_get (map f xs) k ≡ Some y → (x : X) × Among x xs × (y ≡ f x)
number_mapped f [] k y e = absurd (cc)
number_mapped f (x ∷ xs) zero y e = (x, inl refl, (cc))
number_mapped f (x ∷ xs) (suc k) y e = let r = number_mapped f xs k y e in (r.0, inr r.1, r.2)
