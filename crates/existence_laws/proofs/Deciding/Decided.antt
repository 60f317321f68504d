-- Facts of which it is decided whether they hold.
use Rattle.std.proofs.Common.{◌≡◌, ◌⊎◌, inl, inr, ℕ, suc, zero, ◌<◌, ◌≤◌, ℤ, pos, ◌+ℤ◌, ◌-ℤ◌, ◌≤ℤ◌, ◌<ℤ◌, List, [], ◌∷◌, Option, Some, None, refl, sym, ap, subst, arith, le_of_suc-le-suc}
use Rattle.std.proofs.Math.Decide.{map_dec}
use Rattle.std.specs.Prelude.{unsigned_abs, Contains}
use Rattle.std.proofs.lemmas.Int.{ints, by_lt_z}
use Rattle.std.proofs.lemmas.Bool.{cases_lt}

pub both : {P Q : Type 0} → Dec P → Dec Q → Dec (P × Q)
both (yes p) (yes q) = yes (p, q)
both (yes p) (no n) = no (λ h. n h.1)
both (no n) q = no (λ h. n h.0)

pub one_of : {P Q : Type 0} → Dec P → Dec Q → Dec (P ⊎ Q)
one_of (yes p) q = yes (inl p)
one_of (no n) (yes q) = yes (inr q)
one_of (no n) (no m) = no (λ h. elim h as (λ _. ⊥) [ inl p ↦ n p | inr q ↦ m q ])

pub denied : {P : Type 0} → Dec P → Dec (P → ⊥)
denied (yes p) = no (λ n. n p)
denied (no n) = yes n

-- what holds unless it is refuted
pub settled : {P : Type 0} → Dec P → ((P → ⊥) → ⊥) → P
settled (yes p) not = p
settled (no n) not = absurd (not n)

pub int_le : (a b : ℤ) → Dec (a ≤ℤ b)
int_le a b = by_lt_z b a (λ l. no (λ h. omega (arith, ints))) (λ l. yes l)

pub int_lt : (a b : ℤ) → Dec (a <ℤ b)
int_lt a b = by_lt_z a b (λ l. yes l) (λ l. no (λ h. omega (arith, ints)))

-- equal lists, and equal optional values
pub same_list : {X : Type 0} → ((x y : X) → Dec (x ≡ y)) → (xs ys : List X) → Dec (xs ≡ ys)
same_list same [] [] = yes refl
same_list same [] (y ∷ ys) = no (λ e. cc)
same_list same (x ∷ xs) [] = no (λ e. cc)
same_list same (x ∷ xs) (y ∷ ys) = map_dec (λ h. let e : x ≡ y = h.0 in let f : xs ≡ ys = h.1 in cc) (λ e. (cc, cc)) (both (same x y) (same_list same xs ys))

pub same_option : {X : Type 0} → ((x y : X) → Dec (x ≡ y)) → (a b : Option X) → Dec (a ≡ b)
same_option same None None = yes refl
same_option same None (Some y) = no (λ e. cc)
same_option same (Some x) None = no (λ e. cc)
same_option same (Some x) (Some y) = map_dec (λ e. ap Some e) (λ e. cc) (same x y)

-- some number below a bound
pub some_below : (n : ℕ) (P : ℕ → Type 0) → ((k : ℕ) → Dec (P k)) → Dec ((k : ℕ) × (k < n) × P k)
some_below zero P each = no (λ h. let l : h.0 < zero = h.1 in omega arith)
some_below (suc n) P each = map_dec {A = ((k : ℕ) × (k < n) × P k) ⊎ P n}
    (λ h. elim h as (λ _. (k : ℕ) × (k < suc n) × P k) [ inl g ↦ (g.0, let l : g.0 < n = g.1 in omega arith, g.2) | inr p ↦ (n, omega arith, p) ])
    (λ h. elim (cases_lt h.0 n) as (λ _. ((k : ℕ) × (k < n) × P k) ⊎ P n)
    [ inl l ↦ inl (h.0, l, h.2) | inr l ↦ inr (subst P (let k : h.0 < suc n = h.1 in let e : h.0 ≡ n = omega arith in e) h.2) ])
    (one_of (some_below n P each) (each n))

-- some whole number from one to another
pub some_between : (a b : ℤ) (P : ℤ → Type 0) → ((z : ℤ) → Dec (P z)) → Dec ((z : ℤ) × (a ≤ℤ z) × (z ≤ℤ b) × P z)
some_between a b P each = map_dec {A = (k : ℕ) × (k < suc (unsigned_abs (b -ℤ a))) × (((a +ℤ pos k) ≤ℤ b) × P (a +ℤ pos k))}
    (λ h. (a +ℤ pos h.0, omega (arith, ints), h.2.0, h.2.1))
    (λ h.
    let low : a ≤ℤ h.0 = h.1 in
    let high : h.0 ≤ℤ b = h.2 in
    let at : a +ℤ pos (unsigned_abs (h.0 -ℤ a)) ≡ h.0 = omega (arith, ints) in
    (unsigned_abs (h.0 -ℤ a), omega (arith, ints), (subst (λ z. z ≤ℤ b) (sym at) high, subst P (sym at) h.3)))
    (some_below (suc (unsigned_abs (b -ℤ a))) (λ k. ((a +ℤ pos k) ≤ℤ b) × P (a +ℤ pos k)) (λ k. both (int_le (a +ℤ pos k) b) (each (a +ℤ pos k))))

-- some element of a list
pub some_in : {X : Type 0} (P : X → Type 0) → ((x : X) → Dec (P x)) → (xs : List X) → Dec ((x : X) × Contains xs x × P x)
some_in P each [] = no (λ h. let l : h.1.0 < 0 = h.1.1 in omega arith)
some_in {X} P each (x ∷ xs) = map_dec {A = P x ⊎ ((y : X) × Contains xs y × P y)} into back (one_of (each x) (some_in P each xs))
  where
    into : P x ⊎ ((y : X) × Contains xs y × P y) → (y : X) × Contains (x ∷ xs) y × P y
    into (inl p) = (x, (0, omega arith, refl), p)
    into (inr (y, (k, l, e), p)) = (y, (suc k, omega (arith, l), e), p)

    back : (y : X) × Contains (x ∷ xs) y × P y → P x ⊎ ((y : X) × Contains xs y × P y)
    back (y, (zero, l, e), p) = inl (subst P (sym e) p)
    back (y, (suc k, l, e), p) = inr (y, (k, le_of_suc-le-suc l, e), p)

pub contained : {X : Type 0} → ((x y : X) → Dec (x ≡ y)) → (xs : List X) (x : X) → Dec (Contains xs x)
contained same xs x = map_dec (λ h. subst (Contains xs) h.2 h.1) (λ has. (x, has, refl)) (some_in (λ y. y ≡ x) (λ y. same y x) xs)

-- the least number of which something holds, up to another
pub record HasLeast (P : ℕ → Type 0) (n : ℕ) : Type 0 where
  pub least : ℕ
  pub within : least ≤ n
  pub has : P least
  pub none_below : (k : ℕ) → k < least → P k → ⊥

pub least_below : (P : ℕ → Type 0) → ((k : ℕ) → Dec (P k)) → (n : ℕ) → ((m : ℕ) × (m < n) × HasLeast P m) ⊎ ((k : ℕ) → k < n → P k → ⊥)
least_below P each zero = inr (λ k l p. omega (arith, l))
least_below P each (suc n) = by_last (least_below P each n) (each n)
  where
    by_last : ((m : ℕ) × (m < n) × HasLeast P m) ⊎ ((k : ℕ) → k < n → P k → ⊥) → Dec (P n) → ((m : ℕ) × (m < suc n) × HasLeast P m) ⊎ ((k : ℕ) → k < suc n → P k → ⊥)
    by_last (inl (m, l, least)) here = inl (m, omega (arith, l), least)
    by_last (inr none) (yes p) = inl (n, omega arith, record { least = n; within = omega arith; has = p; none_below = none })
    by_last (inr none) (no not) = inr (λ k l p. elim (cases_lt k n) as (λ _. ⊥) [ inl m ↦ none k m p | inr m ↦ not (subst P (let e : k ≡ n = omega (arith, l, m) in e) p) ])

pub least_of : (P : ℕ → Type 0) → ((k : ℕ) → Dec (P k)) → (n : ℕ) → P n → HasLeast P n
least_of P each n p = elim (least_below P each (suc n)) as (λ _. HasLeast P n) [
  | inl (m, l, h) ↦ record { least = h.least; within = let k : h.least ≤ m = h.within in omega (arith, l, k); has = h.has; none_below = h.none_below }
  | inr none ↦ absurd (none n (omega arith) p)
]
