-- Sums of the numbers at an index, over all indices and after a change.
use Rattle.std.proofs.Common.{◌≡◌, ℕ, zero, suc, ◌<◌, cond, ℤ, pos, ◌+ℤ◌, ◌-ℤ◌, ◌*ℤ◌, ◌≤ℤ◌, List, [], ◌∷◌, length, get_or, set, All, ⊎_elim, arith, refl, ap, sym, ◌∙◌}
use Rattle.std.proofs.lemmas.Int.{ints}
use Rattle.std.proofs.lemmas.Bool.{cases_eq, eq-eqb, ne_eqb}
use Rattle.std.proofs.lemmas.List.Elements.{All-head, All-tail}
use Rattle.separation_model.specs.Sum.{here, sum_below, sum_at}
use Rattle.separation_model.proofs.Arithmetic.Ring.{mul-add, mul_comm, ring, var, ◌⊗◌, ◌⊖◌}
use Rattle.separation_model.proofs.Arithmetic.Sums.{sum_below-same, sum_below-add, sum_below-sub, sum_below-zero, sum_below-single}

-- the sum of what a number beside each element gives
abbrev pub sum_pairs : {A : Type 0} → (A → ℤ → ℤ) → List A → List ℤ → ℤ
sum_pairs f [] zs = pos 0
sum_pairs f (x ∷ xs) [] = pos 0
sum_pairs f (x ∷ xs) (z ∷ zs) = f x z +ℤ sum_pairs f xs zs

pub here_same : (k i : ℕ) (z : ℤ) → k ≡ i → here k i z ≡ z
here_same k i z e = ap (λ b. cond b z (pos 0)) (eq-eqb k i e)

pub here_other : (k i : ℕ) (z : ℤ) → (k ≡ i → ⊥) → here k i z ≡ pos 0
here_other k i z e = ap (λ b. cond b z (pos 0)) (ne_eqb k i e)

-- one element's number, weighted by its place
here_sum : (n : ℕ) (y : ℕ → ℤ) (k : ℕ) (z : ℤ) → k < n → sum_below n (λ i. y i *ℤ here k i z) ≡ z *ℤ y k
here_sum n y k z h =
    sum_below-single n (λ i. y i *ℤ here k i z) k h (λ i m other. ap (λ x. y i *ℤ x) (here_other k i z (λ e. other (sym e))) ∙ omega (arith, ints))
    ∙ ap (λ x. y k *ℤ x) (here_same k k z refl) ∙ mul_comm (y k) z

-- the weighted sums at all places are the weighted numbers of all elements
pub sum_at-exchange : {A : Type 0} (end : A → ℕ) (n : ℕ) (y : ℕ → ℤ) (xs : List A) (zs : List ℤ) → All (λ x. end x < n) xs →
    sum_below n (λ i. y i *ℤ sum_at end i xs zs) ≡ sum_pairs (λ x z. z *ℤ y (end x)) xs zs
sum_at-exchange end n y [] zs within = sum_below-zero n (λ i. y i *ℤ pos 0) (λ i m. omega (arith, ints))
sum_at-exchange end n y (x ∷ xs) [] within = sum_below-zero n (λ i. y i *ℤ pos 0) (λ i m. omega (arith, ints))
sum_at-exchange end n y (x ∷ xs) (z ∷ zs) within =
    let first = λ (i : ℕ). y i *ℤ here (end x) i z in
    let rest = λ (i : ℕ). y i *ℤ sum_at end i xs zs in
    sum_below-same n (λ i. y i *ℤ (here (end x) i z +ℤ sum_at end i xs zs)) (λ i. first i +ℤ rest i) (λ i m. mul-add (y i) (here (end x) i z) (sum_at end i xs zs))
    ∙ sum_below-add n first rest
    ∙ omega (arith, ints, here_sum n y (end x) z (All-head (λ a. end a < n) x xs within), sum_at-exchange end n y xs zs (All-tail (λ a. end a < n) x xs within))

-- two sums over the elements
pub sum_pairs-sub : {A : Type 0} (f g : A → ℤ → ℤ) (xs : List A) (zs : List ℤ) → sum_pairs (λ x z. f x z -ℤ g x z) xs zs ≡ sum_pairs f xs zs -ℤ sum_pairs g xs zs
sum_pairs-sub f g [] zs = refl
sum_pairs-sub f g (x ∷ xs) [] = refl
sum_pairs-sub f g (x ∷ xs) (z ∷ zs) = omega (arith, ints, sum_pairs-sub f g xs zs)

pub sum_pairs-same : {A : Type 0} (f g : A → ℤ → ℤ) → ((x : A) (z : ℤ) → f x z ≡ g x z) → (xs : List A) (zs : List ℤ) → sum_pairs f xs zs ≡ sum_pairs g xs zs
sum_pairs-same f g e [] zs = refl
sum_pairs-same f g e (x ∷ xs) [] = refl
sum_pairs-same f g e (x ∷ xs) (z ∷ zs) = omega (arith, ints, e x z, sum_pairs-same f g e xs zs)

-- what is added at an index less what is removed, weighted by the index, is each number weighted by the difference of its ends
pub net-exchange : {A : Type 0} (to from : A → ℕ) (n : ℕ) (y : ℕ → ℤ) (xs : List A) (zs : List ℤ) → All (λ x. to x < n) xs → All (λ x. from x < n) xs →
    sum_below n (λ i. y i *ℤ (sum_at to i xs zs -ℤ sum_at from i xs zs)) ≡ sum_pairs (λ x z. z *ℤ (y (to x) -ℤ y (from x))) xs zs
net-exchange to from n y xs zs to_within from_within =
    let ins = λ (i : ℕ). y i *ℤ sum_at to i xs zs in
    let outs = λ (i : ℕ). y i *ℤ sum_at from i xs zs in
    sum_below-same n (λ i. y i *ℤ (sum_at to i xs zs -ℤ sum_at from i xs zs)) (λ i. ins i -ℤ outs i)
    (λ i m. ring (y i ∷ sum_at to i xs zs ∷ sum_at from i xs zs ∷ []) (var 0 ⊗ (var 1 ⊖ var 2)) ((var 0 ⊗ var 1) ⊖ (var 0 ⊗ var 2)) refl)
    ∙ sum_below-sub n ins outs
    ∙ omega (
      arith,
      ints,
      sum_at-exchange to n y xs zs to_within,
      sum_at-exchange from n y xs zs from_within,
      sum_pairs-sub (λ x z. z *ℤ y (to x)) (λ x z. z *ℤ y (from x)) xs zs,
      sum_pairs-same (λ x z. z *ℤ (y (to x) -ℤ y (from x))) (λ x z. (z *ℤ y (to x)) -ℤ (z *ℤ y (from x)))
          (λ x z. ring (z ∷ y (to x) ∷ y (from x) ∷ []) (var 0 ⊗ (var 1 ⊖ var 2)) ((var 0 ⊗ var 1) ⊖ (var 0 ⊗ var 2)) refl) xs zs,
    )

-- one number changed
pub sum_at-set : {A : Type 0} (end : A → ℕ) (i : ℕ) (xs : List A) (zs : List ℤ) (j : ℕ) (z : ℤ) (d : A) → j < length xs → length xs ≡ length zs →
    sum_at end i xs (set zs j z) +ℤ here (end (get_or xs j d)) i (get_or zs j (pos 0)) ≡ sum_at end i xs zs +ℤ here (end (get_or xs j d)) i z
sum_at-set end i [] zs j z d h e = absurd (omega arith)
sum_at-set end i (x ∷ xs) [] j z d h e = absurd (omega arith)
sum_at-set end i (x ∷ xs) (y ∷ zs) zero z d h e = omega (arith, ints)
sum_at-set end i (x ∷ xs) (y ∷ zs) (suc j) z d h e = omega (arith, ints, sum_at-set end i xs zs j z d (omega arith) (omega arith))

-- numbers that are all 0
pub sum_at-zero : {A : Type 0} (end : A → ℕ) (i : ℕ) (xs : List A) (zs : List ℤ) → All (λ z. z ≡ pos 0) zs → sum_at end i xs zs ≡ pos 0
sum_at-zero end i [] zs none = refl
sum_at-zero end i (x ∷ xs) [] none = refl
sum_at-zero end i (x ∷ xs) (z ∷ zs) none =
    let e : z ≡ pos 0 = All-head (λ a. a ≡ pos 0) z zs none in
    ⊎_elim (λ same. omega (arith, ints, here_same (end x) i z same, e, sum_at-zero end i xs zs (All-tail (λ a. a ≡ pos 0) z zs none)))
    (λ other. omega (arith, ints, here_other (end x) i z other, sum_at-zero end i xs zs (All-tail (λ a. a ≡ pos 0) z zs none)))
    (cases_eq (end x) i)

-- numbers that are not negative
pub sum_at-sign : {A : Type 0} (end : A → ℕ) (i : ℕ) (xs : List A) (zs : List ℤ) → All (λ z. pos 0 ≤ℤ z) zs → pos 0 ≤ℤ sum_at end i xs zs
sum_at-sign end i [] zs sign = omega (arith, ints)
sum_at-sign end i (x ∷ xs) [] sign = omega (arith, ints)
sum_at-sign end i (x ∷ xs) (z ∷ zs) sign =
    let e : pos 0 ≤ℤ z = All-head (λ a. pos 0 ≤ℤ a) z zs sign in
    let rest = sum_at-sign end i xs zs (All-tail (λ a. pos 0 ≤ℤ a) z zs sign) in
    ⊎_elim (λ same. omega (arith, ints, here_same (end x) i z same, e, rest))
    (λ other. omega (arith, ints, here_other (end x) i z other, rest))
    (cases_eq (end x) i)
