-- Fractions in lowest terms that stand a whole number apart.
use Rattle.std.proofs.Common.{◌≡◌, ℕ, zero, suc, ◌<◌, ◌≤◌, ℤ, pos, negsuc, ◌+ℤ◌, ◌-ℤ◌, ◌*ℤ◌, neg_ℤ, [], ◌∷◌, arith, refl, ap, sym, subst, ◌∙◌}
use Rattle.std.proofs.lemmas.Int.{ints}
use Rattle.separation_solve.specs.declared.fraction.Fraction.{Fraction}
use Rattle.separation_solve.specs.Reduced.{IsReduced}
use Rattle.separation_model.proofs.Arithmetic.Ring.{ring, var, num, minus, ◌⊕◌, ◌⊗◌, ◌⊖◌}
use Rattle.separation_model.proofs.Arithmetic.Order.{cancel}

-- a fraction is determined by its parts
pub fraction_is : (place : Fraction) (top : ℤ) (bottom : ℕ) → place.num ≡ top → place.den ≡ bottom → place ≡ record { num = top; den = bottom }
fraction_is place top bottom e f = λ i. record { num = e i; den = f i }

-- a factor of a positive number is at most that number
factor_le : (b d : ℕ) (z : ℤ) → 0 < b → pos b ≡ pos d *ℤ z → d ≤ b
factor_le b d (pos zero) h e = absurd (omega (arith, ints))
factor_le b d (pos (suc n)) h e = omega (arith, ints)
factor_le b d (negsuc n) h e = absurd (omega (arith, ints))

-- what divides a multiple of one part of a reduced fraction by the other one divides the rest
parts_divide : (a c k : ℤ) (b d : ℕ) (u v : ℤ) → (u *ℤ c) +ℤ (v *ℤ pos d) ≡ pos 1 → (c *ℤ pos b) -ℤ (a *ℤ pos d) ≡ k *ℤ pos b *ℤ pos d →
    pos b ≡ pos d *ℤ ((u *ℤ (a +ℤ (k *ℤ pos b))) +ℤ (v *ℤ pos b))
parts_divide a c k b d u v one e =
    let x = pos b in
    let y = pos d in
    let whole : x ≡ x *ℤ ((u *ℤ c) +ℤ (v *ℤ y)) = sym (ap (λ z. x *ℤ z) one ∙ omega (arith, ints)) in
    let apart : c *ℤ x ≡ (a *ℤ y) +ℤ (k *ℤ x *ℤ y) = omega (arith, ints) in
    whole
    ∙ ring (x ∷ y ∷ u ∷ c ∷ v ∷ []) (var 0 ⊗ ((var 2 ⊗ var 3) ⊕ (var 4 ⊗ var 1))) ((var 2 ⊗ (var 3 ⊗ var 0)) ⊕ (var 1 ⊗ (var 4 ⊗ var 0))) refl
    ∙ ap (λ z. (u *ℤ z) +ℤ (y *ℤ (v *ℤ x))) apart
    ∙ ring (x ∷ y ∷ u ∷ a ∷ v ∷ k ∷ []) ((var 2 ⊗ ((var 3 ⊗ var 1) ⊕ (var 5 ⊗ var 0 ⊗ var 1))) ⊕ (var 1 ⊗ (var 4 ⊗ var 0))) (var 1 ⊗ ((var 2 ⊗ (var 3 ⊕ (var 5 ⊗ var 0))) ⊕ (var 4 ⊗ var 0))) refl

-- reduced fractions a whole number apart have one denominator
pub same_den : (a c k : ℤ) (b d : ℕ) → IsReduced a b → IsReduced c d → (c *ℤ pos b) -ℤ (a *ℤ pos d) ≡ k *ℤ pos b *ℤ pos d → b ≡ d
same_den a c k b d r s e =
    let other : (a *ℤ pos d) -ℤ (c *ℤ pos b) ≡ (pos 0 -ℤ k) *ℤ pos d *ℤ pos b =
    ring (a ∷ c ∷ pos b ∷ pos d ∷ []) ((var 0 ⊗ var 3) ⊖ (var 1 ⊗ var 2)) (num (pos 0) ⊖ ((var 1 ⊗ var 2) ⊖ (var 0 ⊗ var 3))) refl
    ∙ ap (λ z. pos 0 -ℤ z) e
    ∙ ring (k ∷ pos b ∷ pos d ∷ []) (num (pos 0) ⊖ (var 0 ⊗ var 1 ⊗ var 2)) ((num (pos 0) ⊖ var 0) ⊗ var 2 ⊗ var 1) refl in
    let down = factor_le b d ((s.num_times *ℤ (a +ℤ (k *ℤ pos b))) +ℤ (s.den_times *ℤ pos b)) r.positive (parts_divide a c k b d s.num_times s.den_times s.one e) in
    let up = factor_le d b ((r.num_times *ℤ (c +ℤ ((pos 0 -ℤ k) *ℤ pos d))) +ℤ (r.den_times *ℤ pos d)) s.positive (parts_divide c a (pos 0 -ℤ k) d b r.num_times r.den_times r.one other) in
    omega (arith, down, up)

-- and numerators so far apart
pub apart : (a c k : ℤ) (b d : ℕ) → IsReduced a b → IsReduced c d → (c *ℤ pos b) -ℤ (a *ℤ pos d) ≡ k *ℤ pos b *ℤ pos d → c -ℤ a ≡ k *ℤ pos b
apart a c k b d r s e =
    let same = same_den a c k b d r s e in
    let f : (c *ℤ pos b) -ℤ (a *ℤ pos b) ≡ k *ℤ pos b *ℤ pos b = subst (λ n. (c *ℤ pos b) -ℤ (a *ℤ pos n) ≡ k *ℤ pos b *ℤ pos n) (sym same) e in
    cancel b (c -ℤ a) (k *ℤ pos b) r.positive
    (ring (a ∷ c ∷ pos b ∷ []) (var 2 ⊗ (var 1 ⊖ var 0)) ((var 1 ⊗ var 2) ⊖ (var 0 ⊗ var 2)) refl ∙ f ∙ ring (k ∷ pos b ∷ []) (var 0 ⊗ var 1 ⊗ var 1) (var 1 ⊗ (var 0 ⊗ var 1)) refl)

-- a whole number added leaves the lowest terms
pub reduced_moved : (a k : ℤ) (b : ℕ) → IsReduced a b → IsReduced (a +ℤ (k *ℤ pos b)) b
reduced_moved a k b r = record {
  positive = r.positive;
  num_times = r.num_times;
  den_times = r.den_times -ℤ (r.num_times *ℤ k);
  one = ring (r.num_times ∷ a ∷ k ∷ pos b ∷ r.den_times ∷ []) ((var 0 ⊗ (var 1 ⊕ (var 2 ⊗ var 3))) ⊕ ((var 4 ⊖ (var 0 ⊗ var 2)) ⊗ var 3)) ((var 0 ⊗ var 1) ⊕ (var 4 ⊗ var 3)) refl ∙ r.one;
}

-- the mirror image
pub reduced_mirrored : (a : ℤ) (b : ℕ) → IsReduced a b → IsReduced (neg_ℤ a) b
reduced_mirrored a b r = record {
  positive = r.positive;
  num_times = neg_ℤ r.num_times;
  den_times = r.den_times;
  one = ring (r.num_times ∷ a ∷ pos b ∷ r.den_times ∷ []) ((minus (var 0) ⊗ minus (var 1)) ⊕ (var 3 ⊗ var 2)) ((var 0 ⊗ var 1) ⊕ (var 3 ⊗ var 2)) refl ∙ r.one;
}

-- a whole number is reduced
pub reduced_whole : (a : ℤ) → IsReduced a 1
reduced_whole a = record { positive = omega arith; num_times = pos 0; den_times = pos 1; one = omega (arith, ints) }
