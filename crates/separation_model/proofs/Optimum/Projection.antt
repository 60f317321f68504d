-- Some: each linear form has its gradient in a rational subspace, by Gram and Schmidt.
use Rattle.std.proofs.Common.{◌≡◌, ℕ, zero, suc, ◌*◌, ◌/◌, ◌<◌, ◌≤◌, ℤ, pos, ◌+ℤ◌, ◌-ℤ◌, ◌*ℤ◌, ◌≤ℤ◌, List, [], ◌∷◌, ap, refl, ◌∙◌, ⊎_elim, arith}
use Rattle.std.specs.List.{AllByRecursion}
use Rattle.std.proofs.lemmas.Int.{ints}
use Rattle.separation_model.specs.Sum.{sum_below}
use Rattle.separation_model.specs.Least.{square}
use Rattle.separation_model.proofs.Arithmetic.Ring.{ring, var, num, ◌⊕◌, ◌⊗◌, ◌⊖◌}
use Rattle.separation_model.proofs.Arithmetic.Order.{mul-nonneg, square-nonneg, square_zero, is_zero_or, nonneg_is, cancel, cancel_nonneg, nat_mul_positive}
use Rattle.separation_model.proofs.Arithmetic.Sums.{sum_below-same, sum_below-add, sum_below-sub, sum_below-scale, sum_below-sign, sum_below-zero, part_of_sum}

abbrev pub dot : ℕ → (ℕ → ℤ) → (ℕ → ℤ) → ℤ
dot n x y = sum_below n (λ i. x i *ℤ y i)

-- linear in the right vector
pub dot_right : (n : ℕ) (a x y : ℕ → ℤ) (s t : ℤ) → dot n a (λ i. (s *ℤ x i) +ℤ (t *ℤ y i)) ≡ (s *ℤ dot n a x) +ℤ (t *ℤ dot n a y)
dot_right n a x y s t =
    let left = λ (i : ℕ). s *ℤ (a i *ℤ x i) in
    let right = λ (i : ℕ). t *ℤ (a i *ℤ y i) in
    let each = sum_below-same n (λ i. a i *ℤ ((s *ℤ x i) +ℤ (t *ℤ y i))) (λ i. left i +ℤ right i)
    (λ i l. ring (a i ∷ x i ∷ y i ∷ s ∷ t ∷ []) (var 0 ⊗ ((var 3 ⊗ var 1) ⊕ (var 4 ⊗ var 2))) ((var 3 ⊗ (var 0 ⊗ var 1)) ⊕ (var 4 ⊗ (var 0 ⊗ var 2))) refl) in
    omega (arith, ints, each, sum_below-add n left right, sum_below-scale s n (λ i. a i *ℤ x i), sum_below-scale t n (λ i. a i *ℤ y i))

-- and in the left one
pub dot_left : (n : ℕ) (x y h : ℕ → ℤ) (s t : ℤ) → dot n (λ i. (s *ℤ x i) +ℤ (t *ℤ y i)) h ≡ (s *ℤ dot n x h) +ℤ (t *ℤ dot n y h)
dot_left n x y h s t =
    let left = λ (i : ℕ). s *ℤ (x i *ℤ h i) in
    let right = λ (i : ℕ). t *ℤ (y i *ℤ h i) in
    let each = sum_below-same n (λ i. ((s *ℤ x i) +ℤ (t *ℤ y i)) *ℤ h i) (λ i. left i +ℤ right i)
    (λ i l. ring (h i ∷ x i ∷ y i ∷ s ∷ t ∷ []) (((var 3 ⊗ var 1) ⊕ (var 4 ⊗ var 2)) ⊗ var 0) ((var 3 ⊗ (var 1 ⊗ var 0)) ⊕ (var 4 ⊗ (var 2 ⊗ var 0))) refl) in
    omega (arith, ints, each, sum_below-add n left right, sum_below-scale s n (λ i. x i *ℤ h i), sum_below-scale t n (λ i. y i *ℤ h i))

-- all these forms are 0 at the vector
abbrev pub IsFlat : ℕ → List (ℕ → ℤ) → (ℕ → ℤ) → Type 0
IsFlat n forms h = AllByRecursion (λ (a : ℕ → ℤ). dot n a h ≡ pos 0) forms

flat_combination : (n : ℕ) (forms : List (ℕ → ℤ)) (x y : ℕ → ℤ) (s t : ℤ) → IsFlat n forms x → IsFlat n forms y → IsFlat n forms (λ i. (s *ℤ x i) +ℤ (t *ℤ y i))
flat_combination n [] x y s t f g = tt
flat_combination n (a ∷ forms) x y s t f g =
    let u : s *ℤ dot n a x ≡ s *ℤ pos 0 = ap (λ z. s *ℤ z) f.0 in
    let v : t *ℤ dot n a y ≡ t *ℤ pos 0 = ap (λ z. t *ℤ z) g.0 in
    (omega (arith, ints, u, v, dot_right n a x y s t), flat_combination n forms x y s t f.1 g.1)

-- the weighted vector, less the form
abbrev pub beside : (ℕ → ℕ) → (ℕ → ℤ) → ℕ → (ℕ → ℤ) → ℕ → ℤ
beside w x d g i = (pos (w i) *ℤ x i) -ℤ (pos d *ℤ g i)

-- a flat vector that has, weighted, the products of the form with all flat vectors
pub record HasGradient (n : ℕ) (w : ℕ → ℕ) (forms : List (ℕ → ℤ)) (g : ℕ → ℤ) : Type 0 where
  pub den : ℕ
  pub point : ℕ → ℤ
  pub positive : 0 < den
  pub flat : IsFlat n forms point
  pub normal : (h : ℕ → ℤ) → IsFlat n forms h → dot n (beside w point den g) h ≡ pos 0

twelve : (w : ℕ) → 1 ≤ w → w ≤ 4 → w * (12 / w) ≡ 12
twelve zero h k = absurd (omega arith)
twelve (suc zero) h k = refl
twelve (suc (suc zero)) h k = refl
twelve (suc (suc (suc zero))) h k = refl
twelve (suc (suc (suc (suc zero)))) h k = refl
twelve (suc (suc (suc (suc (suc w))))) h k = absurd (omega arith)

abbrev weighted : (ℕ → ℕ) → (ℕ → ℤ) → ℕ → ℤ
weighted w x i = pos (w i) *ℤ x i

beside_dot : (n : ℕ) (w : ℕ → ℕ) (x : ℕ → ℤ) (d : ℕ) (g h : ℕ → ℤ) → dot n (beside w x d g) h ≡ dot n (weighted w x) h -ℤ (pos d *ℤ dot n g h)
beside_dot n w x d g h =
    let left = λ (i : ℕ). weighted w x i *ℤ h i in
    let right = λ (i : ℕ). pos d *ℤ (g i *ℤ h i) in
    let each = sum_below-same n (λ i. beside w x d g i *ℤ h i) (λ i. left i -ℤ right i)
    (λ i l. ring (weighted w x i ∷ g i ∷ h i ∷ pos d ∷ []) ((var 0 ⊖ (var 3 ⊗ var 1)) ⊗ var 2) ((var 0 ⊗ var 2) ⊖ (var 3 ⊗ (var 1 ⊗ var 2))) refl) in
    omega (arith, ints, each, sum_below-sub n left right, sum_below-scale (pos d) n (λ i. g i *ℤ h i))

gradient_none : (n : ℕ) (w : ℕ → ℕ) (g : ℕ → ℤ) → ((i : ℕ) → i < n → (1 ≤ w i) × (w i ≤ 4)) → HasGradient n w [] g
gradient_none n w g small = record {
  den = 12;
  point = λ i. g i *ℤ pos (12 / w i);
  positive = omega arith;
  flat = tt;
  normal = λ h f. sum_below-zero n (λ i. beside w (λ i. g i *ℤ pos (12 / w i)) 12 g i *ℤ h i) (λ i l.
      let e : pos (w i) *ℤ pos (12 / w i) ≡ pos 12 = ap pos (twelve (w i) (small i l).0 (small i l).1) in
      let f : pos (w i) *ℤ (g i *ℤ pos (12 / w i)) ≡ pos 12 *ℤ g i = ring (pos (w i) ∷ g i ∷ pos (12 / w i) ∷ []) (var 0 ⊗ (var 1 ⊗ var 2)) ((var 0 ⊗ var 2) ⊗ var 1) refl ∙ ap (λ x. x *ℤ g i) e in
      let none : beside w (λ i. g i *ℤ pos (12 / w i)) 12 g i ≡ pos 0 = omega (arith, ints, f) in
      ap (λ x. x *ℤ h i) none ∙ omega (arith, ints));
}

-- the form is 0 at its own gradient: then at all flat vectors
flat_too : (n : ℕ) (w : ℕ → ℕ) (forms : List (ℕ → ℤ)) (a : ℕ → ℤ) → ((i : ℕ) → i < n → (1 ≤ w i) × (w i ≤ 4)) → (two : HasGradient n w forms a) → dot n a two.point ≡ pos 0 → (h : ℕ → ℤ) → IsFlat n forms h → dot n a h ≡ pos 0
flat_too n w forms a small two none h f =
    let v = two.point in
    let own = two.normal v two.flat in
    let scaled : pos two.den *ℤ dot n a v ≡ pos two.den *ℤ pos 0 = ap (λ x. pos two.den *ℤ x) none in
    let squares = λ (i : ℕ). pos (w i) *ℤ square (v i) in
    let each = sum_below-same n (λ i. weighted w v i *ℤ v i) squares (λ i l. ring (pos (w i) ∷ v i ∷ []) ((var 0 ⊗ var 1) ⊗ var 1) (var 0 ⊗ (var 1 ⊗ var 1)) refl) in
    let sum_none : sum_below n squares ≡ pos 0 = omega (arith, ints, own, each, scaled, beside_dot n w v two.den a v) in
    let zero_at = λ (i : ℕ) (l : i < n).
    square_zero (w i) (v i) (omega (arith, (small i l).0))
    (omega (arith, ints, sum_none, part_of_sum n squares i l (λ k m. mul-nonneg (pos (w k)) (square (v k)) (omega (arith, ints)) (square-nonneg (v k))))) in
    let all_none = sum_below-zero n (λ i. weighted w v i *ℤ h i) (λ i l. ap (λ x. (pos (w i) *ℤ x) *ℤ h i) (zero_at i l) ∙ ring (pos (w i) ∷ h i ∷ []) ((var 0 ⊗ num (pos 0)) ⊗ var 1) (num (pos 0)) refl) in
    let product : pos two.den *ℤ dot n a h ≡ pos two.den *ℤ pos 0 = omega (arith, ints, all_none, two.normal h f, beside_dot n w v two.den a h) in
    cancel two.den (dot n a h) (pos 0) two.positive product

own_sign : (n : ℕ) (w : ℕ → ℕ) (forms : List (ℕ → ℤ)) (a : ℕ → ℤ) → (two : HasGradient n w forms a) → pos 0 ≤ℤ dot n a two.point
own_sign n w forms a two =
    let v = two.point in
    let squares = λ (i : ℕ). pos (w i) *ℤ square (v i) in
    let each = sum_below-same n (λ i. weighted w v i *ℤ v i) squares (λ i l. ring (pos (w i) ∷ v i ∷ []) ((var 0 ⊗ var 1) ⊗ var 1) (var 0 ⊗ (var 1 ⊗ var 1)) refl) in
    let sign = sum_below-sign n squares (λ k m. mul-nonneg (pos (w k)) (square (v k)) (omega (arith, ints)) (square-nonneg (v k))) in
    cancel_nonneg two.den (dot n a v) two.positive (omega (arith, ints, sign, each, two.normal v two.flat, beside_dot n w v two.den a v))

-- less what it has of a's gradient
gradient_less : (n : ℕ) (w : ℕ → ℕ) (forms : List (ℕ → ℤ)) (a g : ℕ → ℤ) (k : ℕ) → HasGradient n w forms g → (two : HasGradient n w forms a) → 0 < k → dot n a two.point ≡ pos k → HasGradient n w (a ∷ forms) g
gradient_less n w forms a g k one two positive k_is =
    let x = one.point in
    let v = two.point in
    let t = pos 0 -ℤ dot n a x in
    let point = λ (i : ℕ). (pos k *ℤ x i) +ℤ (t *ℤ v i) in
    let turned : t *ℤ dot n a v ≡ t *ℤ pos k = ap (λ z. t *ℤ z) k_is in
    let cancels : (pos k *ℤ dot n a x) +ℤ (t *ℤ pos k) ≡ pos 0 = ring (pos k ∷ dot n a x ∷ []) ((var 0 ⊗ var 1) ⊕ ((num (pos 0) ⊖ var 1) ⊗ var 0)) (num (pos 0)) refl in
    record {
      den = one.den * k;
      point = point;
      positive = nat_mul_positive one.den k one.positive positive;
      flat = (omega (arith, ints, dot_right n a x v (pos k) t, turned, cancels), flat_combination n forms x v (pos k) t one.flat two.flat);
      normal = λ h f.
          let each = sum_below-same n (λ i. beside w point (one.den * k) g i *ℤ h i) (λ i. ((pos k *ℤ beside w x one.den g i) +ℤ (t *ℤ weighted w v i)) *ℤ h i)
          (λ i l. ap (λ z. z *ℤ h i) (ring (pos (w i) ∷ x i ∷ v i ∷ pos k ∷ t ∷ pos one.den ∷ g i ∷ []) ((var 0 ⊗ ((var 3 ⊗ var 1) ⊕ (var 4 ⊗ var 2))) ⊖ ((var 5 ⊗ var 3) ⊗ var 6)) ((var 3 ⊗ ((var 0 ⊗ var 1) ⊖ (var 5 ⊗ var 6))) ⊕ (var 4 ⊗ (var 0 ⊗ var 2))) refl)) in
          let first : pos k *ℤ dot n (beside w x one.den g) h ≡ pos k *ℤ pos 0 = ap (λ z. pos k *ℤ z) (one.normal h f.1) in
          let along : pos two.den *ℤ dot n a h ≡ pos two.den *ℤ pos 0 = ap (λ z. pos two.den *ℤ z) f.0 in
          let second : dot n (weighted w v) h ≡ pos 0 = omega (arith, ints, along, two.normal h f.1, beside_dot n w v two.den a h) in
          let third : t *ℤ dot n (weighted w v) h ≡ t *ℤ pos 0 = ap (λ z. t *ℤ z) second in
          omega (arith, ints, each, first, third, dot_left n (beside w x one.den g) (weighted w v) h (pos k) t);
    }

positive_from : (z : ℤ) (k : ℕ) → z ≡ pos k → (z ≡ pos 0 → ⊥) → 0 < k
positive_from z zero e some = absurd (some e)
positive_from z (suc k) e some = omega arith

pub gradient : (n : ℕ) (w : ℕ → ℕ) → ((i : ℕ) → i < n → (1 ≤ w i) × (w i ≤ 4)) → (forms : List (ℕ → ℤ)) (g : ℕ → ℤ) → HasGradient n w forms g
gradient n w small [] g = gradient_none n w g small
gradient n w small (a ∷ forms) g =
    let one = gradient n w small forms g in
    let two = gradient n w small forms a in
    ⊎_elim
    (λ none. record { den = one.den; point = one.point; positive = one.positive; flat = (flat_too n w forms a small two none one.point one.flat, one.flat); normal = λ h f. one.normal h f.1 })
    (λ some. let k = nonneg_is (dot n a two.point) (own_sign n w forms a two) in
    gradient_less n w forms a g k.0 one two (positive_from (dot n a two.point) k.0 k.1 some) k.1)
    (is_zero_or (dot n a two.point))
