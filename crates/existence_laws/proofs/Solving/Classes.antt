-- Denominators that are not too large: positions a whole number apart form a class, and what balances it makes its weight a denominator.
use Rattle.std.proofs.Common.{◌≡◌, ℕ, zero, suc, ◌+◌, ◌*◌, ◌<◌, ◌≤◌, ℤ, pos, negsuc, ◌+ℤ◌, ◌-ℤ◌, ◌*ℤ◌, ◌≤ℤ◌, ◌<ℤ◌, [], ◌∷◌, refl, sym, ap, subst, ◌∙◌, ⊎_elim, arith}
use Rattle.std.specs.Prelude.{int_div, int_rem, unsigned_abs}
use Rattle.std.proofs.lemmas.Int.{ints, quot-rem, rem_below}
use Rattle.separation_model.specs.Sum.{sum_below}
use Rattle.separation_model.proofs.Arithmetic.Ring.{ring, var, num, ◌⊗◌, ◌⊕◌, ◌⊖◌}
use Rattle.separation_model.proofs.Arithmetic.Order.{is_zero_or, mul-mono, mul-nonneg}
use Rattle.separation_model.proofs.Arithmetic.Sums.{part_of_sum, sum_below-add, sum_below-le, sum_below-same, sum_below-scale, sum_below-sign}
use Rattle.existence_laws.proofs.Deciding.Counting.{tally, tally_grows}

-- a multiple of the number
abbrev pub Divides : ℕ → ℤ → Type 0
Divides d z = (q : ℤ) × (z ≡ pos d *ℤ q)

small_multiple : (d : ℕ) (q : ℤ) → unsigned_abs (pos d *ℤ q) < d → q ≡ pos 0
small_multiple d (pos zero) l = refl
small_multiple d (pos (suc q)) l = absurd (omega (arith, ints, l, mul-mono (pos d) (pos 1) (pos (suc q)) (omega (arith, ints)) (omega (arith, ints))))
small_multiple d (negsuc q) l = absurd (omega (arith, ints, l, mul-mono (pos d) (negsuc q) (negsuc 0) (omega (arith, ints)) (omega (arith, ints))))

pub divides_or : (d : ℕ) (z : ℤ) → 0 < d → Dec (Divides d z)
divides_or d z some =
    let rest = int_rem z (pos d) in
    let parts : int_div z (pos d) *ℤ pos d +ℤ rest ≡ z = quot-rem z (pos d) in
    ⊎_elim
    (λ none. yes (int_div z (pos d), (let e = ring (int_div z (pos d) ∷ pos d ∷ []) (var 0 ⊗ var 1) (var 1 ⊗ var 0) refl in omega (arith, ints, e, parts, none))))
    (λ more. no (λ h.
    let e : pos d *ℤ (h.0 -ℤ int_div z (pos d)) ≡ rest = ring (pos d ∷ h.0 ∷ int_div z (pos d) ∷ []) (var 0 ⊗ (var 1 ⊖ var 2)) ((var 0 ⊗ var 1) ⊖ (var 2 ⊗ var 0)) refl ∙ omega (arith, ints, parts, h.1) in
    let low : unsigned_abs rest < d = rem_below z (pos d) some in
    let q : h.0 -ℤ int_div z (pos d) ≡ pos 0 = small_multiple d (h.0 -ℤ int_div z (pos d)) (subst (λ r. unsigned_abs r < d) (sym e) low) in
    more (sym e ∙ ap (λ x. pos d *ℤ x) q ∙ omega (arith, ints))))
    (is_zero_or rest)

-- how often the number goes in, if it does
pub quotient : (d : ℕ) (z : ℤ) → Dec (Divides d z) → ℤ
quotient d z (yes h) = h.0
quotient d z (no n) = pos 0

pub quotient_is : (d : ℕ) (z : ℤ) (at : Dec (Divides d z)) → Divides d z → z ≡ pos d *ℤ quotient d z at
unfolding quotient
quotient_is d z (yes h) k = h.1
quotient_is d z (no n) k = absurd (n k)

tally_holds : {P : Type 0} (d : Dec P) → P → tally d ≡ 1
unfolding tally
tally_holds (yes p) q = refl
tally_holds (no n) q = absurd (n q)

pub tally_fails : {P : Type 0} (d : Dec P) → (P → ⊥) → tally d ≡ 0
unfolding tally
tally_fails (yes p) n = absurd (n p)
tally_fails (no m) n = refl

tally_same : {P Q : Type 0} (d : Dec P) (e : Dec Q) → (P → Q) → (Q → P) → tally d ≡ tally e
tally_same d e f g = omega (arith, tally_grows d e f, tally_grows e d g)

tally_light : {P : Type 0} (d : Dec P) (w : ℕ) → w ≤ 4 → (pos (tally d) *ℤ pos w) ≤ℤ pos 4
unfolding tally
tally_light (yes p) w l = omega (arith, ints, l)
tally_light (no n) w l = omega (arith, ints)

-- how often the denominator goes into what an item of the class lacks
part : (d : ℕ) (w pu pv want : ℤ) → Dec (Divides d (pu -ℤ pv)) → ℤ
part d w pu pv want (yes h) = w *ℤ (h.0 -ℤ want)
part d w pu pv want (no n) = pos 0

part_is : (d : ℕ) (w pu pv want : ℤ) (at : Dec (Divides d (pu -ℤ pv))) →
    pos (tally at) *ℤ (pos 2 *ℤ w *ℤ (pu -ℤ (pos d *ℤ want))) ≡ (pos 2 *ℤ (pv *ℤ (pos (tally at) *ℤ w))) +ℤ (pos 2 *ℤ (pos d *ℤ part d w pu pv want at))
unfolding tally part
part_is d w pu pv want (yes h) =
    let e : pu ≡ pv +ℤ (pos d *ℤ h.0) = omega (arith, ints, h.1) in
    ap (λ x. pos 1 *ℤ (pos 2 *ℤ w *ℤ (x -ℤ (pos d *ℤ want)))) e
    ∙ ring (pos d ∷ w ∷ pv ∷ want ∷ h.0 ∷ []) (num (pos 1) ⊗ (num (pos 2) ⊗ var 1 ⊗ ((var 2 ⊕ (var 0 ⊗ var 4)) ⊖ (var 0 ⊗ var 3))))
    ((num (pos 2) ⊗ (var 2 ⊗ (num (pos 1) ⊗ var 1))) ⊕ (num (pos 2) ⊗ (var 0 ⊗ (var 1 ⊗ (var 4 ⊖ var 3))))) refl
part_is d w pu pv want (no n) =
    ring (pos d ∷ w ∷ pv ∷ want ∷ pu ∷ []) (num (pos 0) ⊗ (num (pos 2) ⊗ var 1 ⊗ (var 4 ⊖ (var 0 ⊗ var 3))))
    ((num (pos 2) ⊗ (var 2 ⊗ (num (pos 0) ⊗ var 1))) ⊕ (num (pos 2) ⊗ (var 0 ⊗ num (pos 0)))) refl

pub constant_sum : (n : ℕ) (z : ℕ) → sum_below n (λ i. pos z) ≡ pos (z * n)
constant_sum zero z = ap pos (let e : 0 ≡ z * 0 = omega arith in e)
constant_sum (suc n) z = let e : z * suc n ≡ z * n + z = omega arith in omega (arith, ints, constant_sum n z, e)

-- items, and positions over the number d
module _ (n d : ℕ) (some : 0 < d) (P : ℕ → ℤ) (weight : ℕ → ℕ) where
  -- the positions are a whole number apart
  abbrev pub InClass : ℕ → ℕ → Type 0
  InClass v u = Divides d (P u -ℤ P v)

  pub in_class_or : (v u : ℕ) → Dec (InClass v u)
  in_class_or v u = divides_or d (P u -ℤ P v) some

  class_later : (v u x : ℕ) → InClass v u → InClass v x → InClass u x
  class_later v u x h k = (k.0 -ℤ h.0, (let e = ring (pos d ∷ k.0 ∷ h.0 ∷ []) (var 0 ⊗ (var 1 ⊖ var 2)) ((var 0 ⊗ var 1) ⊖ (var 0 ⊗ var 2)) refl in omega (arith, ints, e, h.1, k.1)))

  class_back : (v u : ℕ) → InClass v u → InClass u v
  class_back v u h = class_later v u v h (pos 0, omega (arith, ints))

  pub class_weight : ℕ → ℤ
  class_weight v = sum_below n (λ u. pos (tally (in_class_or v u)) *ℤ pos (weight u))

  pub class_same : (v u : ℕ) → InClass v u → class_weight v ≡ class_weight u
  unfolding class_weight
  class_same v u h = sum_below-same n (λ x. pos (tally (in_class_or v x)) *ℤ pos (weight x)) (λ x. pos (tally (in_class_or u x)) *ℤ pos (weight x))
      (λ x l. ap (λ z. pos z *ℤ pos (weight x)) (tally_same (in_class_or v x) (in_class_or u x) (class_later v u x h) (class_later u v x (class_back v u h))))

  -- two nodes of one class are both of any class or both not
  pub class_both : (v u x : ℕ) → InClass u x → pos (tally (in_class_or v u)) ≡ pos (tally (in_class_or v x))
  class_both v u x h = ap pos (tally_same (in_class_or v u) (in_class_or v x)
      (λ a. class_later u v x (class_back v u a) h)
      (λ a. class_later x v u (class_back v x a) (class_back u x h)))

  pub class_sign : (v : ℕ) → pos 0 ≤ℤ class_weight v
  unfolding class_weight
  class_sign v = sum_below-sign n (λ u. pos (tally (in_class_or v u)) *ℤ pos (weight u)) (λ u l. mul-nonneg (pos (tally (in_class_or v u))) (pos (weight u)) (omega (arith, ints)) (omega (arith, ints)))

  pub class_positive : (v : ℕ) → v < n → 1 ≤ weight v → pos 0 <ℤ class_weight v
  unfolding class_weight
  class_positive v l heavy =
      let at = λ (u : ℕ). pos (tally (in_class_or v u)) *ℤ pos (weight u) in
      let own : at v ≡ pos 1 *ℤ pos (weight v) = ap (λ z. pos z *ℤ pos (weight v)) (tally_holds (in_class_or v v) (pos 0, omega (arith, ints))) in
      omega (arith, ints, own, heavy, part_of_sum n at v l (λ u k. mul-nonneg (pos (tally (in_class_or v u))) (pos (weight u)) (omega (arith, ints)) (omega (arith, ints))))

  pub class_most : (v : ℕ) → ((u : ℕ) → u < n → weight u ≤ 4) → class_weight v ≤ℤ pos (4 * n)
  unfolding class_weight
  class_most v light = omega (arith, ints, constant_sum n 4, sum_below-le n (λ u. pos (tally (in_class_or v u)) *ℤ pos (weight u)) (λ u. pos 4) (λ u l. tally_light (in_class_or v u) (weight u) (light u l)))

  -- where the items of a class balance each other, its weight is a denominator of their positions
  pub class_divides : (v : ℕ) (want : ℕ → ℤ) → sum_below n (λ u. pos (tally (in_class_or v u)) *ℤ (pos 2 *ℤ pos (weight u) *ℤ (P u -ℤ (pos d *ℤ want u)))) ≡ pos 0 → Divides d (class_weight v *ℤ P v)
  unfolding class_weight
  class_divides v want even =
      let of_weight = λ (u : ℕ). pos (tally (in_class_or v u)) *ℤ pos (weight u) in
      let of_part = λ (u : ℕ). part d (pos (weight u)) (P u) (P v) (want u) (in_class_or v u) in
      let whole = sum_below n of_part in
      let W = sum_below n of_weight in
      let sums = sum_below-same n (λ u. pos (tally (in_class_or v u)) *ℤ (pos 2 *ℤ pos (weight u) *ℤ (P u -ℤ (pos d *ℤ want u))))
      (λ u. (pos 2 *ℤ (P v *ℤ of_weight u)) +ℤ (pos 2 *ℤ (pos d *ℤ of_part u)))
      (λ u l. part_is d (pos (weight u)) (P u) (P v) (want u) (in_class_or v u)) in
      let both : sum_below n (λ u. (pos 2 *ℤ (P v *ℤ of_weight u)) +ℤ (pos 2 *ℤ (pos d *ℤ of_part u))) ≡ (pos 2 *ℤ (P v *ℤ W)) +ℤ (pos 2 *ℤ (pos d *ℤ whole)) = omega (
        arith,
        ints,
        sum_below-add n (λ u. pos 2 *ℤ (P v *ℤ of_weight u)) (λ u. pos 2 *ℤ (pos d *ℤ of_part u)),
        sum_below-scale (pos 2) n (λ u. P v *ℤ of_weight u),
        sum_below-scale (P v) n of_weight,
        sum_below-scale (pos 2) n (λ u. pos d *ℤ of_part u),
        sum_below-scale (pos d) n of_part,
      ) in (
        pos 0 -ℤ whole,
        omega (
          arith,
          ints,
          even,
          sums,
          both,
          ring (P v ∷ W ∷ []) (var 0 ⊗ var 1) (var 1 ⊗ var 0) refl,
          ring (pos d ∷ whole ∷ []) (var 0 ⊗ (num (pos 0) ⊖ var 1)) (num (pos 0) ⊖ (var 0 ⊗ var 1)) refl,
        ),
      )
