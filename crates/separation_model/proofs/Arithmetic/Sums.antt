-- Sums over the indices below a number.
use Rattle.std.proofs.Common.{◌≡◌, ℕ, zero, suc, ◌<◌, ℤ, pos, ◌+ℤ◌, ◌-ℤ◌, ◌*ℤ◌, neg_ℤ, ◌≤ℤ◌, ◌<ℤ◌, ⊎_elim, arith, refl, sym, subst}
use Rattle.std.proofs.lemmas.Int.{ints}
use Rattle.std.proofs.lemmas.Bool.{cases_eq}
use Rattle.separation_model.specs.Sum.{sum_below}
use Rattle.separation_model.proofs.Arithmetic.Ring.{mul-add}

-- two sums of equal numbers
pub sum_below-same : (n : ℕ) (f g : ℕ → ℤ) → ((i : ℕ) → i < n → f i ≡ g i) → sum_below n f ≡ sum_below n g
sum_below-same zero f g e = refl
sum_below-same (suc n) f g e = omega (arith, ints, sum_below-same n f g (λ i h. e i (omega arith)), e n (omega arith))

pub sum_below-add : (n : ℕ) (f g : ℕ → ℤ) → sum_below n (λ i. f i +ℤ g i) ≡ sum_below n f +ℤ sum_below n g
sum_below-add zero f g = refl
sum_below-add (suc n) f g = omega (arith, ints, sum_below-add n f g)

pub sum_below-sub : (n : ℕ) (f g : ℕ → ℤ) → sum_below n (λ i. f i -ℤ g i) ≡ sum_below n f -ℤ sum_below n g
sum_below-sub zero f g = refl
sum_below-sub (suc n) f g = omega (arith, ints, sum_below-sub n f g)

pub sum_below-scale : (c : ℤ) (n : ℕ) (f : ℕ → ℤ) → sum_below n (λ i. c *ℤ f i) ≡ c *ℤ sum_below n f
sum_below-scale c zero f = omega (arith, ints)
sum_below-scale c (suc n) f = omega (arith, ints, sum_below-scale c n f, mul-add c (sum_below n f) (f n))

pub sum_below-zero : (n : ℕ) (f : ℕ → ℤ) → ((i : ℕ) → i < n → f i ≡ pos 0) → sum_below n f ≡ pos 0
sum_below-zero zero f e = refl
sum_below-zero (suc n) f e = omega (arith, ints, sum_below-zero n f (λ i h. e i (omega arith)), e n (omega arith))

pub sum_below-le : (n : ℕ) (f g : ℕ → ℤ) → ((i : ℕ) → i < n → f i ≤ℤ g i) → sum_below n f ≤ℤ sum_below n g
sum_below-le zero f g e = omega (arith, ints)
sum_below-le (suc n) f g e = omega (arith, ints, sum_below-le n f g (λ i h. e i (omega arith)), e n (omega arith))

pub sum_below-sign : (n : ℕ) (f : ℕ → ℤ) → ((i : ℕ) → i < n → pos 0 ≤ℤ f i) → pos 0 ≤ℤ sum_below n f
sum_below-sign zero f e = omega (arith, ints)
sum_below-sign (suc n) f e = omega (arith, ints, sum_below-sign n f (λ i h. e i (omega arith)), e n (omega arith))

-- one of numbers that are not negative is at most their sum
pub part_of_sum : (n : ℕ) (f : ℕ → ℤ) (k : ℕ) → k < n → ((i : ℕ) → i < n → pos 0 ≤ℤ f i) → f k ≤ℤ sum_below n f
part_of_sum zero f k h e = absurd (omega arith)
part_of_sum (suc n) f k h e =
    let rest = λ (i : ℕ) (g : i < n). e i (omega arith) in
    ⊎_elim
    (λ (same : k ≡ n). subst (λ j. f j ≤ℤ (sum_below n f +ℤ f n)) (sym same) (omega (arith, ints, sum_below-sign n f rest)))
    (λ (other : k ≡ n → ⊥). omega (arith, ints, part_of_sum n f k (omega arith) rest, e n (omega arith)))
    (cases_eq k n)

-- sums that differ at one place
pub sum_below-at : (n : ℕ) (f g : ℕ → ℤ) (k : ℕ) → k < n → ((i : ℕ) → i < n → (i ≡ k → ⊥) → f i ≡ g i) → sum_below n g +ℤ f k ≡ sum_below n f +ℤ g k
sum_below-at zero f g k h e = absurd (omega arith)
sum_below-at (suc n) f g k h e =
    ⊎_elim
    (λ (same : k ≡ n). subst (λ j. (sum_below n g +ℤ g n) +ℤ f j ≡ (sum_below n f +ℤ f n) +ℤ g j) (sym same)
    (omega (arith, ints, sum_below-same n f g (λ i m. e i (omega arith) (λ q. absurd (omega arith))))))
    (λ (other : k ≡ n → ⊥). omega (arith, ints, sum_below-at n f g k (omega arith) (λ i m. e i (omega arith)), e n (omega arith) (λ q. other (sym q))))
    (cases_eq k n)

-- a sum of which one place alone is not 0
pub sum_below-single : (n : ℕ) (f : ℕ → ℤ) (k : ℕ) → k < n → ((i : ℕ) → i < n → (i ≡ k → ⊥) → f i ≡ pos 0) → sum_below n f ≡ f k
sum_below-single n f k h e =
    omega (arith, ints, sum_below-at n f (λ _. pos 0) k h e, sum_below-zero n (λ _. pos 0) (λ i m. refl))

-- a sum of numbers of which none is above 0, and one is below
pub negative_sum : (n : ℕ) (f : ℕ → ℤ) (k : ℕ) → k < n → ((i : ℕ) → i < n → f i ≤ℤ pos 0) → f k <ℤ pos 0 → sum_below n f <ℤ pos 0
negative_sum n f k h low below =
    let g = λ (i : ℕ). neg_ℤ (f i) in
    let signs : (i : ℕ) → i < n → pos 0 ≤ℤ g i = λ i m. omega (arith, ints, low i m) in
    omega (arith, ints, part_of_sum n g k h signs, sum_below-add n f g, sum_below-zero n (λ i. f i +ℤ g i) (λ i m. omega (arith, ints)))
