-- The order of whole numbers, and products.
use Rattle.std.proofs.Common.{◌≡◌, ℕ, zero, suc, ◌*◌, ◌<◌, ◌⊎◌, ℤ, pos, negsuc, ◌-ℤ◌, ◌*ℤ◌, ◌≤ℤ◌, ◌<ℤ◌, refl, inl, inr, arith, [], ◌∷◌}
use Rattle.std.proofs.Math.Nat.{mul-le-mul_left}
use Rattle.std.proofs.lemmas.Int.{ints, by_lt_z}
use Rattle.separation_model.specs.Least.{square}
use Rattle.separation_model.proofs.Arithmetic.Ring.{ring, var, ◌⊗◌, ◌⊖◌}

pub nonneg_is : (a : ℤ) → pos 0 ≤ℤ a → (n : ℕ) × (a ≡ pos n)
nonneg_is (pos n) h = (n, refl)
nonneg_is (negsuc n) h = absurd (omega (arith, ints))

pub le_both : (a b : ℤ) → a ≤ℤ b → b ≤ℤ a → a ≡ b
le_both a b h k = omega (arith, ints)

pub mul-nonneg : (a b : ℤ) → pos 0 ≤ℤ a → pos 0 ≤ℤ b → pos 0 ≤ℤ (a *ℤ b)
mul-nonneg (pos a) (pos b) h k = omega (arith, ints)
mul-nonneg (pos a) (negsuc b) h k = absurd (omega (arith, ints))
mul-nonneg (negsuc a) b h k = absurd (omega (arith, ints))

pub nat_mul_positive : (a b : ℕ) → 0 < a → 0 < b → 0 < a * b
nat_mul_positive (suc a) (suc b) h k = omega arith
nat_mul_positive zero b h k = absurd (omega arith)
nat_mul_positive (suc a) zero h k = absurd (omega arith)

pub mul-mono : (c a b : ℤ) → pos 0 ≤ℤ c → a ≤ℤ b → (c *ℤ a) ≤ℤ (c *ℤ b)
mul-mono c a b h k =
    let e : c *ℤ (b -ℤ a) ≡ (c *ℤ b) -ℤ (c *ℤ a) = ring (c ∷ b ∷ a ∷ []) (var 0 ⊗ (var 1 ⊖ var 2)) ((var 0 ⊗ var 1) ⊖ (var 0 ⊗ var 2)) refl in
    let d : pos 0 ≤ℤ (b -ℤ a) = omega (arith, ints) in
    omega (arith, ints, e, mul-nonneg c (b -ℤ a) h d)

pub square-nonneg : (a : ℤ) → pos 0 ≤ℤ square a
square-nonneg (pos a) = omega (arith, ints)
square-nonneg (negsuc a) = omega (arith, ints)

-- a product with a positive factor has the other one's sign
pub cancel_nonneg : (c : ℕ) (a : ℤ) → 0 < c → pos 0 ≤ℤ (pos c *ℤ a) → pos 0 ≤ℤ a
cancel_nonneg zero a h k = absurd (omega arith)
cancel_nonneg (suc c) (pos a) h k = omega (arith, ints)
cancel_nonneg (suc c) (negsuc a) h k = absurd (omega (arith, ints))

pub cancel_le : (c : ℕ) (a b : ℤ) → 0 < c → (pos c *ℤ a) ≤ℤ (pos c *ℤ b) → a ≤ℤ b
cancel_le c a b h k =
    let e : pos c *ℤ (b -ℤ a) ≡ (pos c *ℤ b) -ℤ (pos c *ℤ a) = ring (pos c ∷ b ∷ a ∷ []) (var 0 ⊗ (var 1 ⊖ var 2)) ((var 0 ⊗ var 1) ⊖ (var 0 ⊗ var 2)) refl in
    let d : pos 0 ≤ℤ (b -ℤ a) = cancel_nonneg c (b -ℤ a) h (omega (arith, ints, e)) in
    omega (arith, ints)

pub cancel : (c : ℕ) (a b : ℤ) → 0 < c → pos c *ℤ a ≡ pos c *ℤ b → a ≡ b
cancel c a b h e = le_both a b (cancel_le c a b h (omega (arith, ints))) (cancel_le c b a h (omega (arith, ints)))

-- a product of two positive numbers
pub int_mul_positive : (a b : ℤ) → pos 0 <ℤ a → pos 0 <ℤ b → pos 0 <ℤ (a *ℤ b)
int_mul_positive (pos (suc a)) (pos (suc b)) h k = omega (arith, ints)
int_mul_positive (pos zero) b h k = absurd (omega (arith, ints))
int_mul_positive (pos (suc a)) (pos zero) h k = absurd (omega (arith, ints))
int_mul_positive (pos (suc a)) (negsuc b) h k = absurd (omega (arith, ints))
int_mul_positive (negsuc a) b h k = absurd (omega (arith, ints))

-- a positive factor keeps the order
pub mul-less : (c a b : ℤ) → pos 0 <ℤ c → a <ℤ b → (c *ℤ a) <ℤ (c *ℤ b)
mul-less c a b h k =
    let e : c *ℤ (b -ℤ a) ≡ (c *ℤ b) -ℤ (c *ℤ a) = ring (c ∷ b ∷ a ∷ []) (var 0 ⊗ (var 1 ⊖ var 2)) ((var 0 ⊗ var 1) ⊖ (var 0 ⊗ var 2)) refl in
    omega (arith, ints, e, int_mul_positive c (b -ℤ a) h (omega (arith, ints)))

pub cancel_less : (c : ℕ) (a b : ℤ) → 0 < c → (pos c *ℤ a) <ℤ (pos c *ℤ b) → a <ℤ b
cancel_less c a b h k =
    by_lt_z a b (λ m. m) (λ m. absurd (omega (arith, ints, mul-mono (pos c) b a (omega (arith, ints)) m)))

-- a square times a positive number is 0 for 0 alone
pub square_zero : (w : ℕ) (a : ℤ) → 0 < w → (pos w *ℤ square a) ≤ℤ pos 0 → a ≡ pos 0
square_zero w (pos zero) h k = refl
square_zero w (pos (suc a)) h k =
    let r : 0 < suc a * suc a = omega arith in
    absurd (omega (arith, ints, k, mul-le-mul_left (suc a * suc a) h))
square_zero w (negsuc a) h k =
    let r : 0 < suc a * suc a = omega arith in
    absurd (omega (arith, ints, k, mul-le-mul_left (suc a * suc a) h))

pub is_zero_or : (a : ℤ) → (a ≡ pos 0) ⊎ (a ≡ pos 0 → ⊥)
is_zero_or (pos zero) = inl refl
is_zero_or (pos (suc n)) = inr (λ e. omega (arith, ints))
is_zero_or (negsuc n) = inr (λ e. omega (arith, ints))
