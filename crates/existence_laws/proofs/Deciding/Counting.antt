-- Lists that are made of parts, and sets of places that grow until they are closed.
use Rattle.std.proofs.Common.{◌≡◌, inl, inr, ℕ, zero, suc, ◌+◌, ◌-◌, ◌<◌, ◌≤◌, List, [], ◌∷◌, ◌++◌, length, sym, subst, arith}
use Rattle.std.specs.Prelude.{Contains}
use Rattle.std.specs.List.{AllByRecursion as Each}
use Rattle.std.proofs.lemmas.Bool.{cases_lt}
use Rattle.existence_laws.proofs.Deciding.Decided.{both, denied, settled, some_in}

-- the lists of the numbers below a bound, one after the other
unfoldable pub below : {X : Type 0} → ℕ → (ℕ → List X) → List X
below zero part = []
below (suc n) part = below n part ++ part n

pub each_append : {X : Type 0} (P : X → Type 0) (xs ys : List X) → Each P xs → Each P ys → Each P (xs ++ ys)
each_append P [] ys h k = k
each_append P (x ∷ xs) ys h k = (h.0, each_append P xs ys h.1 k)

pub each_below : {X : Type 0} (P : X → Type 0) (part : ℕ → List X) (n : ℕ) → ((i : ℕ) → i < n → Each P (part i)) → Each P (below n part)
unfolding below
each_below P part zero each = tt
each_below P part (suc n) each = each_append P (below n part) (part n) (each_below P part n (λ i l. each i (omega (arith, l)))) (each n (omega arith))

contains_left : {X : Type 0} (xs ys : List X) (x : X) → Contains xs x → Contains (xs ++ ys) x
contains_left [] ys x (k, l, e) = absurd (omega (arith, l))
contains_left (y ∷ xs) ys x (zero, l, e) = (0, omega arith, e)
contains_left (y ∷ xs) ys x (suc k, l, e) = let h = contains_left xs ys x (k, omega (arith, l), e) in (suc h.0, (let m = h.1 in omega (arith, m)), h.2)

contains_right : {X : Type 0} (xs ys : List X) (x : X) → Contains ys x → Contains (xs ++ ys) x
contains_right [] ys x has = has
contains_right (y ∷ xs) ys x has = let h = contains_right xs ys x has in (suc h.0, (let m = h.1 in omega (arith, m)), h.2)

pub contains_below : {X : Type 0} (part : ℕ → List X) (n i : ℕ) (x : X) → i < n → Contains (part i) x → Contains (below n part) x
unfolding below
contains_below part zero i x l has = absurd (omega (arith, l))
contains_below part (suc n) i x l has = elim (cases_lt i n) as (λ _. Contains (below n part ++ part n) x) [
  | inl less ↦ contains_left (below n part) (part n) x (contains_below part n i x less has)
  | inr last ↦ contains_right (below n part) (part n) x (subst (λ k. Contains (part k) x) (let e : i ≡ n = omega (arith, l, last) in e) has)
]

-- how many elements have a decided property
unfoldable pub tally : {P : Type 0} → Dec P → ℕ
tally (yes p) = 1
tally (no n) = 0

tally_most : {P : Type 0} (d : Dec P) → tally d ≤ 1
unfolding tally
tally_most (yes p) = omega arith
tally_most (no n) = omega arith

pub tally_grows : {P Q : Type 0} (d : Dec P) (e : Dec Q) → (P → Q) → tally d ≤ tally e
unfolding tally
tally_grows (yes p) (yes q) f = omega arith
tally_grows (yes p) (no n) f = absurd (n (f p))
tally_grows (no m) e f = omega arith

tally_new : {P Q : Type 0} (d : Dec P) (e : Dec Q) → (P → ⊥) → Q → tally d < tally e
unfolding tally
tally_new (yes p) e not q = absurd (not p)
tally_new (no m) (yes r) not q = omega arith
tally_new (no m) (no n) not q = absurd (n q)

count : {X : Type 0} (P : X → Type 0) → ((x : X) → Dec (P x)) → List X → ℕ
count P each [] = 0
count P each (x ∷ xs) = tally (each x) + count P each xs

count_most : {X : Type 0} (P : X → Type 0) (each : (x : X) → Dec (P x)) (xs : List X) → count P each xs ≤ length xs
unfolding count
count_most P each [] = omega arith
count_most P each (x ∷ xs) = omega (arith, tally_most (each x), count_most P each xs)

count_grows : {X : Type 0} (P Q : X → Type 0) (d : (x : X) → Dec (P x)) (e : (x : X) → Dec (Q x)) → ((x : X) → P x → Q x) → (xs : List X) → count P d xs ≤ count Q e xs
unfolding count
count_grows P Q d e f [] = omega arith
count_grows P Q d e f (x ∷ xs) = omega (arith, tally_grows (d x) (e x) (f x), count_grows P Q d e f xs)

count_new : {X : Type 0} (P Q : X → Type 0) (d : (x : X) → Dec (P x)) (e : (x : X) → Dec (Q x)) → ((x : X) → P x → Q x) → (xs : List X) (x : X) → Contains xs x → (P x → ⊥) → Q x → count P d xs < count Q e xs
unfolding count
count_new P Q d e f [] x (k, l, same) not q = absurd (omega (arith, l))
count_new P Q d e f (y ∷ xs) x (zero, l, same) not q =
    omega (arith, tally_new (d y) (e y) (subst (λ z. P z → ⊥) (sym same) not) (subst Q (sym same) q), count_grows P Q d e f xs)
count_new P Q d e f (y ∷ xs) x (suc k, l, same) not q = omega (arith, tally_grows (d y) (e y) (f y), count_new P Q d e f xs x (k, omega (arith, l), same) not q)

-- a property that grows from number to number stops growing on a list
module _ {X : Type 0} (xs : List X) (R : ℕ → X → Type 0) (each : (k : ℕ) (x : X) → Dec (R k x)) (up : (k : ℕ) (x : X) → R k x → R (suc k) x) where
  Stops : Type 0
  Stops = (k : ℕ) × ((x : X) → Contains xs x → R (suc k) x → R k x)

  by_new : (fuel k : ℕ) → length xs ≤ count (R k) (each k) xs + fuel → Dec ((x : X) × Contains xs x × (R (suc k) x × (R k x → ⊥)))
      → (length xs ≤ count (R (suc k)) (each (suc k)) xs + (fuel - 1) → 0 < fuel → Stops) → Stops
  unfolding Stops
  by_new fuel k few (no none) on = (k, λ x has more. settled (each k x) (λ not. none (x, has, (more, not))))
  by_new fuel k few (yes (x, has, (more, not))) on =
      let new = count_new (R k) (R (suc k)) (each k) (each (suc k)) (up k) xs x has not more in
      let most = count_most (R (suc k)) (each (suc k)) xs in on (omega (arith, few, new, most)) (omega (arith, few, new, most))

  stops_from : (fuel k : ℕ) → length xs ≤ count (R k) (each k) xs + fuel → Stops
  stops_from zero k few = by_new 0 k few (some_in _ (λ x. both (each (suc k) x) (denied (each k x))) xs) (λ l some. absurd (omega (arith, some)))
  stops_from (suc fuel) k few = by_new (suc fuel) k few (some_in _ (λ x. both (each (suc k) x) (denied (each k x))) xs) (λ l some. stops_from fuel (suc k) (omega (arith, l)))

  pub stops : (k : ℕ) × ((x : X) → Contains xs x → R (suc k) x → R k x)
  unfolding Stops
  stops = stops_from (length xs) 0 (omega arith)
