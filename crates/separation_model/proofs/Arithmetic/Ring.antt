-- Equations of sums and products of whole numbers, decided by their normal forms.
use Rattle.std.proofs.Common.{◌≡◌, ℕ, ◌*◌, ℤ, pos, negsuc, ◌+ℤ◌, ◌*ℤ◌, neg_ℤ, suc, zero, Bool, true, false, cond, ◌&&◌, eqb, leb, List, [], ◌∷◌, get_or, arith, refl, ap, sym, subst, ◌∙◌, ⊎_elim}
use Rattle.std.proofs.lemmas.Int.{ints}
use Rattle.std.proofs.lemmas.Bool.{eqb-true, and_parts, cases_Bool, false≢true}
use borrow.Author.Differences.{up, down, sum_is_lem, product_is}
pub use Rattle.std.proofs.Math.IntN.{*ℤ_comm as mul_comm}

pub mul-add : (a b c : ℤ) → a *ℤ (b +ℤ c) ≡ (a *ℤ b) +ℤ (a *ℤ c)
mul-add a b c = let e = sum_is_lem b c in
    omega (arith, ints, ap (λ x. up a * x) e, ap (λ x. down a * x) e)

pub mul_assoc : (a b c : ℤ) → (a *ℤ b) *ℤ c ≡ a *ℤ (b *ℤ c)
mul_assoc a b c =
    let ab = product_is a b in
    let bc = product_is b c in
    omega (
      arith,
      ints,
      ap (λ x. x * up c) ab.0,
      ap (λ x. x * down c) ab.0,
      ap (λ x. x * up c) ab.1,
      ap (λ x. x * down c) ab.1,
      ap (λ x. up a * x) bc.0,
      ap (λ x. down a * x) bc.0,
      ap (λ x. up a * x) bc.1,
      ap (λ x. down a * x) bc.1,
    )

pub add-mul : (a b c : ℤ) → (a +ℤ b) *ℤ c ≡ (a *ℤ c) +ℤ (b *ℤ c)
add-mul a b c = mul_comm (a +ℤ b) c ∙ mul-add c a b ∙ ap (λ x. x +ℤ (c *ℤ b)) (mul_comm c a) ∙ ap (λ x. (a *ℤ c) +ℤ x) (mul_comm c b)

pub mul_swap : (a b c : ℤ) → a *ℤ (b *ℤ c) ≡ b *ℤ (a *ℤ c)
mul_swap a b c = sym (mul_assoc a b c) ∙ ap (λ x. x *ℤ c) (mul_comm a b) ∙ mul_assoc b a c

pub one-mul : (a : ℤ) → pos 1 *ℤ a ≡ a
one-mul a = omega (arith, ints)

-- an expression in variables, which are named by their places in a list of numbers
pub data Term : Type 0 where
  var : ℕ → Term
  num : ℤ → Term
  minus : Term → Term
  ◌⊕◌ : Term → Term → Term
  ◌⊗◌ : Term → Term → Term

infixl 60 ◌⊕◌
infixl 70 ◌⊗◌
-- what an expression stands for
abbrev pub value : List ℤ → Term → ℤ
value env (var i) = get_or env i (pos 0)
value env (num z) = z
value env (minus s) = neg_ℤ (value env s)
value env (s ⊕ t) = value env s +ℤ value env t
value env (s ⊗ t) = value env s *ℤ value env t

-- a difference
abbrev pub ◌⊖◌ : Term → Term → Term
s ⊖ t = s ⊕ minus t

infixl 60 ◌⊖◌
-- the product of variables
abbrev pub monomial : List ℤ → List ℕ → ℤ
monomial env [] = pos 1
monomial env (i ∷ is) = get_or env i (pos 0) *ℤ monomial env is

-- a sum of products of a number and variables
pub data Sum : Type 0 where
  none : Sum
  more : ℤ → List ℕ → Sum → Sum

abbrev pub total : List ℤ → Sum → ℤ
total env none = pos 0
total env (more c m p) = (c *ℤ monomial env m) +ℤ total env p

-- a variable put into its place among the sorted ones
abbrev pub placed : ℕ → List ℕ → List ℕ
placed i [] = i ∷ []
placed i (j ∷ js) = cond (leb i j) (i ∷ j ∷ js) (j ∷ placed i js)

abbrev pub merged : List ℕ → List ℕ → List ℕ
merged [] n = n
merged (i ∷ is) n = placed i (merged is n)

abbrev pub same : List ℕ → List ℕ → Bool
same [] [] = true
same [] (j ∷ js) = false
same (i ∷ is) [] = false
same (i ∷ is) (j ∷ js) = eqb i j && same is js

-- a product added to a sum
abbrev pub with_product : ℤ → List ℕ → Sum → Sum
with_product c m none = more c m none
with_product c m (more d n p) = cond (same m n) (more (c +ℤ d) n p) (more d n (with_product c m p))

abbrev pub plus : Sum → Sum → Sum
plus none q = q
plus (more c m p) q = with_product c m (plus p q)

abbrev pub scaled : ℤ → List ℕ → Sum → Sum
scaled c m none = none
scaled c m (more d n p) = more (c *ℤ d) (merged m n) (scaled c m p)

abbrev pub times : Sum → Sum → Sum
times none q = none
times (more c m p) q = plus (scaled c m q) (times p q)

abbrev pub normal : Term → Sum
normal (var i) = more (pos 1) (i ∷ []) none
normal (num z) = more z [] none
normal (minus s) = scaled (negsuc 0) [] (normal s)
normal (s ⊕ t) = plus (normal s) (normal t)
normal (s ⊗ t) = times (normal s) (normal t)

abbrev pub is_nothing : ℤ → Bool
is_nothing (pos zero) = true
is_nothing (pos (suc n)) = false
is_nothing (negsuc n) = false

abbrev pub is_zero : Sum → Bool
is_zero none = true
is_zero (more c m p) = is_nothing c && is_zero p

monomial-placed : (env : List ℤ) (i : ℕ) (m : List ℕ) → monomial env (placed i m) ≡ get_or env i (pos 0) *ℤ monomial env m
monomial-placed env i [] = refl
monomial-placed env i (j ∷ js) =
    elim (leb i j) as (λ b. monomial env (cond b (i ∷ j ∷ js) (j ∷ placed i js)) ≡ get_or env i (pos 0) *ℤ (get_or env j (pos 0) *ℤ monomial env js)) [
      | true ↦ refl
      | false ↦ ap (λ x. get_or env j (pos 0) *ℤ x) (monomial-placed env i js) ∙ mul_swap (get_or env j (pos 0)) (get_or env i (pos 0)) (monomial env js)
    ]

monomial-merged : (env : List ℤ) (m n : List ℕ) → monomial env (merged m n) ≡ monomial env m *ℤ monomial env n
monomial-merged env [] n = sym (one-mul (monomial env n))
monomial-merged env (i ∷ is) n =
    monomial-placed env i (merged is n) ∙ ap (λ x. get_or env i (pos 0) *ℤ x) (monomial-merged env is n) ∙ sym (mul_assoc (get_or env i (pos 0)) (monomial env is) (monomial env n))

same_is : (m n : List ℕ) → same m n ≡ true → m ≡ n
same_is [] [] e = refl
same_is [] (j ∷ js) e = absurd (false≢true e)
same_is (i ∷ is) [] e = absurd (false≢true e)
same_is (i ∷ is) (j ∷ js) e =
    let parts = and_parts (eqb i j) (same is js) e in
    ap (λ k. k ∷ is) (eqb-true i j parts.0) ∙ ap (λ ks. j ∷ ks) (same_is is js parts.1)

total-with_product : (env : List ℤ) (c : ℤ) (m : List ℕ) (p : Sum) → total env (with_product c m p) ≡ (c *ℤ monomial env m) +ℤ total env p
total-with_product env c m none = refl
total-with_product env c m (more d n p) =
    let P : Bool → Type 0 = λ b. total env (cond b (more (c +ℤ d) n p) (more d n (with_product c m p))) ≡ (c *ℤ monomial env m) +ℤ ((d *ℤ monomial env n) +ℤ total env p) in
    ⊎_elim
    (λ e. subst P (sym e) (let f : monomial env m ≡ monomial env n = ap (monomial env) (same_is m n e) in
    let g : (c *ℤ monomial env m) ≡ (c *ℤ monomial env n) = ap (λ x. c *ℤ x) f in
    omega (arith, ints, add-mul c d (monomial env n), g)))
    (λ e. subst P (sym e) (omega (arith, ints, total-with_product env c m p)))
    (cases_Bool (same m n))

total-plus : (env : List ℤ) (p q : Sum) → total env (plus p q) ≡ total env p +ℤ total env q
total-plus env none q = omega (arith, ints)
total-plus env (more c m p) q = omega (arith, ints, total-with_product env c m (plus p q), total-plus env p q)

total-scaled : (env : List ℤ) (c : ℤ) (m : List ℕ) (p : Sum) → total env (scaled c m p) ≡ (c *ℤ monomial env m) *ℤ total env p
total-scaled env c m none = omega (arith, ints)
total-scaled env c m (more d n p) =
    let a = monomial env m in
    let b = monomial env n in
    let e : (c *ℤ d) *ℤ (a *ℤ b) ≡ (c *ℤ a) *ℤ (d *ℤ b) =
    mul_assoc c d (a *ℤ b) ∙ ap (λ x. c *ℤ x) (mul_swap d a b) ∙ sym (mul_assoc c a (d *ℤ b)) in
    let f : (c *ℤ d) *ℤ monomial env (merged m n) ≡ (c *ℤ d) *ℤ (a *ℤ b) = ap (λ x. (c *ℤ d) *ℤ x) (monomial-merged env m n) in
    omega (arith, ints, e, f, total-scaled env c m p, mul-add (c *ℤ a) (d *ℤ b) (total env p))

total-times : (env : List ℤ) (p q : Sum) → total env (times p q) ≡ total env p *ℤ total env q
total-times env none q = omega (arith, ints)
total-times env (more c m p) q =
    omega (arith, ints, total-plus env (scaled c m q) (times p q), total-scaled env c m q, total-times env p q, add-mul (c *ℤ monomial env m) (total env p) (total env q))

total-normal : (env : List ℤ) (t : Term) → total env (normal t) ≡ value env t
total-normal env (var i) = omega (arith, ints)
total-normal env (num z) = omega (arith, ints)
total-normal env (minus s) = omega (arith, ints, total-scaled env (negsuc 0) [] (normal s), total-normal env s)
total-normal env (s ⊕ t) = omega (arith, ints, total-plus env (normal s) (normal t), total-normal env s, total-normal env t)
total-normal env (s ⊗ t) = total-times env (normal s) (normal t) ∙ ap (λ x. x *ℤ total env (normal t)) (total-normal env s) ∙ ap (λ x. value env s *ℤ x) (total-normal env t)

nothing_is : (c : ℤ) → is_nothing c ≡ true → c ≡ pos 0
nothing_is (pos zero) e = refl
nothing_is (pos (suc n)) e = absurd (false≢true e)
nothing_is (negsuc n) e = absurd (false≢true e)

total-is_zero : (env : List ℤ) (p : Sum) → is_zero p ≡ true → total env p ≡ pos 0
total-is_zero env none e = refl
total-is_zero env (more c m p) e =
    let parts = and_parts (is_nothing c) (is_zero p) e in
    let f : (c *ℤ monomial env m) ≡ (pos 0 *ℤ monomial env m) = ap (λ x. x *ℤ monomial env m) (nothing_is c parts.0) in
    omega (arith, ints, f, total-is_zero env p parts.1)

-- two expressions whose difference has no product in its normal form are equal for all numbers
pub ring : (env : List ℤ) (s t : Term) → is_zero (normal (s ⊖ t)) ≡ true → value env s ≡ value env t
ring env s t e = omega (arith, ints, total-normal env (s ⊖ t), total-is_zero env (normal (s ⊖ t)) e)
