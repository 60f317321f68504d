-- A block that moves towards its mean lowers the weighted sum of squares.
use Rattle.std.proofs.Common.{◌≡◌, ℕ, suc, zero, ◌*◌, ◌/◌, ◌<◌, Bool, true, false, cond, if◌then◌else◌, ℤ, pos, ◌+ℤ◌, ◌-ℤ◌, ◌*ℤ◌, ◌≤ℤ◌, ◌<ℤ◌, [], ◌∷◌, arith, refl, ap, sym, ◌∙◌}
use Rattle.std.proofs.lemmas.Int.{ints}
use Rattle.separation_model.specs.Sum.{sum_below}
use Rattle.separation_model.specs.Least.{square}
use Rattle.separation_model.proofs.Arithmetic.Ring.{ring, var, num, ◌⊕◌, ◌⊗◌, ◌⊖◌}
use Rattle.separation_model.proofs.Arithmetic.Order.{cancel_less, int_mul_positive, mul-less, mul-mono, nat_mul_positive}
use Rattle.separation_model.proofs.Arithmetic.Sums.{sum_below-same, sum_below-add, sum_below-sub, sum_below-scale}

-- from x to y towards the place at which the weights u at the offsets d balance, over a common denominator k
pub squares_fall : (n : ℕ) (u d : ℕ → ℤ) (k x y : ℤ) → x <ℤ y →
    ((sum_below n u *ℤ x) +ℤ (k *ℤ sum_below n (λ i. u i *ℤ d i))) <ℤ pos 0 →
    ((sum_below n u *ℤ y) +ℤ (k *ℤ sum_below n (λ i. u i *ℤ d i))) ≤ℤ pos 0 →
    sum_below n (λ i. u i *ℤ square (y +ℤ (k *ℤ d i))) <ℤ sum_below n (λ i. u i *ℤ square (x +ℤ (k *ℤ d i)))
squares_fall n u d k x y forward short within =
    let w = sum_below n u in
    let m = sum_below n (λ i. u i *ℤ d i) in
    let old = λ (i : ℕ). u i *ℤ square (x +ℤ (k *ℤ d i)) in
    let new = λ (i : ℕ). u i *ℤ square (y +ℤ (k *ℤ d i)) in
    let each : (i : ℕ) → i < n → (new i -ℤ old i) ≡ (y -ℤ x) *ℤ (((y +ℤ x) *ℤ u i) +ℤ ((pos 2 *ℤ k) *ℤ (u i *ℤ d i))) =
    λ i h. ring (x ∷ y ∷ k ∷ u i ∷ d i ∷ [])
    ((var 3 ⊗ ((var 1 ⊕ (var 2 ⊗ var 4)) ⊗ (var 1 ⊕ (var 2 ⊗ var 4)))) ⊖ (var 3 ⊗ ((var 0 ⊕ (var 2 ⊗ var 4)) ⊗ (var 0 ⊕ (var 2 ⊗ var 4)))))
    ((var 1 ⊖ var 0) ⊗ (((var 1 ⊕ var 0) ⊗ var 3) ⊕ ((num (pos 2) ⊗ var 2) ⊗ (var 3 ⊗ var 4)))) refl in
    let total : sum_below n (λ i. new i -ℤ old i) ≡ (y -ℤ x) *ℤ (((y +ℤ x) *ℤ w) +ℤ ((pos 2 *ℤ k) *ℤ m)) =
    sum_below-same n (λ i. new i -ℤ old i) (λ i. (y -ℤ x) *ℤ (((y +ℤ x) *ℤ u i) +ℤ ((pos 2 *ℤ k) *ℤ (u i *ℤ d i)))) each
    ∙ sum_below-scale (y -ℤ x) n (λ i. ((y +ℤ x) *ℤ u i) +ℤ ((pos 2 *ℤ k) *ℤ (u i *ℤ d i)))
    ∙ ap (λ z. (y -ℤ x) *ℤ z) (sum_below-add n (λ i. (y +ℤ x) *ℤ u i) (λ i. (pos 2 *ℤ k) *ℤ (u i *ℤ d i))
    ∙ ap (λ z. z +ℤ sum_below n (λ i. (pos 2 *ℤ k) *ℤ (u i *ℤ d i))) (sum_below-scale (y +ℤ x) n u)
    ∙ ap (λ z. ((y +ℤ x) *ℤ w) +ℤ z) (sum_below-scale (pos 2 *ℤ k) n (λ i. u i *ℤ d i))) in
    let split : (y -ℤ x) *ℤ (((y +ℤ x) *ℤ w) +ℤ ((pos 2 *ℤ k) *ℤ m)) ≡ pos 0 -ℤ ((y -ℤ x) *ℤ (pos 0 -ℤ (((w *ℤ x) +ℤ (k *ℤ m)) +ℤ ((w *ℤ y) +ℤ (k *ℤ m))))) =
    ring (x ∷ y ∷ k ∷ w ∷ m ∷ [])
    ((var 1 ⊖ var 0) ⊗ (((var 1 ⊕ var 0) ⊗ var 3) ⊕ ((num (pos 2) ⊗ var 2) ⊗ var 4)))
    (num (pos 0) ⊖ ((var 1 ⊖ var 0) ⊗ (num (pos 0) ⊖ (((var 3 ⊗ var 0) ⊕ (var 2 ⊗ var 4)) ⊕ ((var 3 ⊗ var 1) ⊕ (var 2 ⊗ var 4)))))) refl in
    let gain : pos 0 <ℤ ((y -ℤ x) *ℤ (pos 0 -ℤ (((w *ℤ x) +ℤ (k *ℤ m)) +ℤ ((w *ℤ y) +ℤ (k *ℤ m))))) =
    int_mul_positive (y -ℤ x) (pos 0 -ℤ (((w *ℤ x) +ℤ (k *ℤ m)) +ℤ ((w *ℤ y) +ℤ (k *ℤ m)))) (omega (arith, ints)) (omega (arith, ints)) in
    omega (arith, ints, sum_below-sub n new old, total, split, gain)

-- the square of an item's displacement, over a common denominator, with its weight
abbrev pub term : ℕ → ℕ → ℤ → ℤ → ℕ → ℤ
term scale weight want place den = pos weight *ℤ square (pos (scale / den) *ℤ (place -ℤ (pos den *ℤ want)))

-- the term of an item so far from a place
term-moved : (scale weight den c : ℕ) (want place off : ℤ) → scale / den ≡ c → c * den ≡ scale →
    term scale weight want (place +ℤ (off *ℤ pos den)) den ≡ pos weight *ℤ square ((pos c *ℤ place) +ℤ (pos scale *ℤ (off -ℤ want)))
term-moved scale weight den c want place off is whole =
    let e : pos scale ≡ pos c *ℤ pos den = omega (arith, ints) in
    let inner : pos c *ℤ ((place +ℤ (off *ℤ pos den)) -ℤ (pos den *ℤ want)) ≡ (pos c *ℤ place) +ℤ ((pos c *ℤ pos den) *ℤ (off -ℤ want)) =
    ring (pos c ∷ place ∷ off ∷ pos den ∷ want ∷ [])
    (var 0 ⊗ ((var 1 ⊕ (var 2 ⊗ var 3)) ⊖ (var 3 ⊗ var 4)))
    ((var 0 ⊗ var 1) ⊕ ((var 0 ⊗ var 3) ⊗ (var 2 ⊖ var 4))) refl in
    ap (λ k. pos weight *ℤ square (pos k *ℤ ((place +ℤ (off *ℤ pos den)) -ℤ (pos den *ℤ want)))) is
    ∙ ap (λ z. pos weight *ℤ square z) (inner ∙ ap (λ z. (pos c *ℤ place) +ℤ (z *ℤ (off -ℤ want))) (sym e))

-- how the members of a block stand: so far from its place, over one denominator
pub record MovesBlock (n : ℕ) (member : ℕ → Bool) (off : ℕ → ℤ) (place : ℤ) (den : ℕ) (nums : ℕ → ℤ) (dens : ℕ → ℕ) : Type 0 where
  pub at : (i : ℕ) → i < n → member i ≡ true → (nums i ≡ place +ℤ (off i *ℤ pos den)) × (dens i ≡ den)

-- the weight of the members
abbrev pub member_weight : (ℕ → Bool) → (ℕ → ℕ) → ℕ → ℤ
member_weight member weight i = if member i then pos (weight i) else pos 0

-- a factor of a positive number is positive
factor_positive : (c den scale : ℕ) → c * den ≡ scale → 0 < scale → pos 0 <ℤ pos c
factor_positive zero den scale e h = absurd (omega arith)
factor_positive (suc c) den scale e h = omega (arith, ints)

other_positive : (c den scale : ℕ) → c * den ≡ scale → 0 < scale → 0 < den
other_positive c zero scale e h = absurd (omega arith)
other_positive c (suc den) scale e h = omega arith

-- two fractions over a common denominator
forward_scaled : (scale c den e other : ℕ) (place next : ℤ) → c * den ≡ scale → e * other ≡ scale → 0 < scale → (place *ℤ pos other) <ℤ (next *ℤ pos den) → (pos c *ℤ place) <ℤ (pos e *ℤ next)
forward_scaled scale c den e other place next whole new_whole some forward =
    let old_den = other_positive c den scale whole some in
    let new_den = other_positive e other scale new_whole some in
    let k : (pos scale *ℤ (place *ℤ pos other)) <ℤ (pos scale *ℤ (next *ℤ pos den)) = mul-less (pos scale) (place *ℤ pos other) (next *ℤ pos den) (omega (arith, ints)) forward in
    let s : pos scale ≡ pos c *ℤ pos den = omega (arith, ints) in
    let t : pos scale ≡ pos e *ℤ pos other = omega (arith, ints) in
    let left : (pos den *ℤ pos other) *ℤ (pos c *ℤ place) ≡ (pos c *ℤ pos den) *ℤ (place *ℤ pos other) =
    ring (pos den ∷ pos other ∷ pos c ∷ place ∷ []) ((var 0 ⊗ var 1) ⊗ (var 2 ⊗ var 3)) ((var 2 ⊗ var 0) ⊗ (var 3 ⊗ var 1)) refl in
    let right : (pos den *ℤ pos other) *ℤ (pos e *ℤ next) ≡ (pos e *ℤ pos other) *ℤ (next *ℤ pos den) =
    ring (pos den ∷ pos other ∷ pos e ∷ next ∷ []) ((var 0 ⊗ var 1) ⊗ (var 2 ⊗ var 3)) ((var 2 ⊗ var 1) ⊗ (var 3 ⊗ var 0)) refl in
    let l : pos scale *ℤ (place *ℤ pos other) ≡ (pos c *ℤ pos den) *ℤ (place *ℤ pos other) = ap (λ z. z *ℤ (place *ℤ pos other)) s in
    let r : pos scale *ℤ (next *ℤ pos den) ≡ (pos e *ℤ pos other) *ℤ (next *ℤ pos den) = ap (λ z. z *ℤ (next *ℤ pos den)) t in
    let less : ((pos den *ℤ pos other) *ℤ (pos c *ℤ place)) <ℤ ((pos den *ℤ pos other) *ℤ (pos e *ℤ next)) = omega (arith, ints, k, left, right, l, r) in
    cancel_less (den * other) (pos c *ℤ place) (pos e *ℤ next) (nat_mul_positive den other old_den new_den) less

-- a block that moves forward, at most to its mean, lowers the sum
pub descent : (n scale c e den other : ℕ) (member : ℕ → Bool) (weight : ℕ → ℕ) (want off : ℕ → ℤ) (place next : ℤ) (nums news : ℕ → ℤ) (dens new_dens : ℕ → ℕ) →
    c * den ≡ scale → scale / den ≡ c → e * other ≡ scale → scale / other ≡ e → 0 < scale →
    MovesBlock n member off place den nums dens → MovesBlock n member off next other news new_dens →
    ((i : ℕ) → i < n → member i ≡ false → (news i ≡ nums i) × (new_dens i ≡ dens i)) →
    (place *ℤ pos other) <ℤ (next *ℤ pos den) →
    ((sum_below n (member_weight member weight) *ℤ place) +ℤ (pos den *ℤ sum_below n (λ i. member_weight member weight i *ℤ (off i -ℤ want i)))) <ℤ pos 0 →
    ((sum_below n (member_weight member weight) *ℤ next) +ℤ (pos other *ℤ sum_below n (λ i. member_weight member weight i *ℤ (off i -ℤ want i)))) ≤ℤ pos 0 →
    sum_below n (λ i. term scale (weight i) (want i) (news i) (new_dens i)) <ℤ sum_below n (λ i. term scale (weight i) (want i) (nums i) (dens i))
descent n scale c e den other member weight want off place next nums news dens new_dens whole is new_whole new_is some before after same forward short within =
    let u = member_weight member weight in
    let d = λ (i : ℕ). off i -ℤ want i in
    let x = pos c *ℤ place in
    let y = pos e *ℤ next in
    let olds = λ (i : ℕ). term scale (weight i) (want i) (nums i) (dens i) in
    let nexts = λ (i : ℕ). term scale (weight i) (want i) (news i) (new_dens i) in
    let rest = λ (i : ℕ). if member i then pos 0 else olds i in
    let old_squares = λ (i : ℕ). u i *ℤ square (x +ℤ (pos scale *ℤ d i)) in
    let new_squares = λ (i : ℕ). u i *ℤ square (y +ℤ (pos scale *ℤ d i)) in
    let moved : (i : ℕ) → i < n → (b : Bool) → member i ≡ b → (olds i ≡ old_squares i +ℤ rest i) × (nexts i ≡ new_squares i +ℤ rest i) = λ i h b.
    elim b as (λ b. member i ≡ b → (olds i ≡ old_squares i +ℤ rest i) × (nexts i ≡ new_squares i +ℤ rest i)) [
      | true ↦ λ m.
          let was = before.at i h m in
          let is_now = after.at i h m in
          let weighs : u i ≡ pos (weight i) = ap (λ b. cond b (pos (weight i)) (pos 0)) m in
          let none : rest i ≡ pos 0 = ap (λ b. cond b (pos 0) (olds i)) m in
          let old_term : olds i ≡ pos (weight i) *ℤ square (x +ℤ (pos scale *ℤ d i)) =
          rw (was.0, was.1) (term-moved scale (weight i) den c (want i) place (off i) is whole) in
          let new_term : nexts i ≡ pos (weight i) *ℤ square (y +ℤ (pos scale *ℤ d i)) =
          rw (is_now.0, is_now.1) (term-moved scale (weight i) other e (want i) next (off i) new_is new_whole) in
          let old_weighs : old_squares i ≡ pos (weight i) *ℤ square (x +ℤ (pos scale *ℤ d i)) = ap (λ z. z *ℤ square (x +ℤ (pos scale *ℤ d i))) weighs in
          let new_weighs : new_squares i ≡ pos (weight i) *ℤ square (y +ℤ (pos scale *ℤ d i)) = ap (λ z. z *ℤ square (y +ℤ (pos scale *ℤ d i))) weighs in
          (omega (arith, ints, old_term, old_weighs, none), omega (arith, ints, new_term, new_weighs, none))
      | false ↦ λ m.
          let stays = same i h m in
          let weighs : u i ≡ pos 0 = ap (λ b. cond b (pos (weight i)) (pos 0)) m in
          let all : rest i ≡ olds i = ap (λ b. cond b (pos 0) (olds i)) m in
          let old_none : old_squares i ≡ pos 0 *ℤ square (x +ℤ (pos scale *ℤ d i)) = ap (λ z. z *ℤ square (x +ℤ (pos scale *ℤ d i))) weighs in
          let new_none : new_squares i ≡ pos 0 *ℤ square (y +ℤ (pos scale *ℤ d i)) = ap (λ z. z *ℤ square (y +ℤ (pos scale *ℤ d i))) weighs in
          let kept : nexts i ≡ olds i = rw (stays.0, stays.1) refl in
          (omega (arith, ints, old_none, all), omega (arith, ints, new_none, all, kept))
    ] in
    let old_sum : sum_below n olds ≡ sum_below n old_squares +ℤ sum_below n rest =
    sum_below-same n olds (λ i. old_squares i +ℤ rest i) (λ i h. (moved i h (member i) refl).0) ∙ sum_below-add n old_squares rest in
    let new_sum : sum_below n nexts ≡ sum_below n new_squares +ℤ sum_below n rest =
    sum_below-same n nexts (λ i. new_squares i +ℤ rest i) (λ i h. (moved i h (member i) refl).1) ∙ sum_below-add n new_squares rest in
    let w = sum_below n u in
    let m = sum_below n (λ i. u i *ℤ d i) in
    let scale_is : pos scale ≡ pos c *ℤ pos den = omega (arith, ints) in
    let scale_is_too : pos scale ≡ pos e *ℤ pos other = omega (arith, ints) in
    let short' : ((w *ℤ x) +ℤ (pos scale *ℤ m)) <ℤ pos 0 =
    let r : pos c *ℤ ((w *ℤ place) +ℤ (pos den *ℤ m)) ≡ (w *ℤ (pos c *ℤ place)) +ℤ ((pos c *ℤ pos den) *ℤ m) =
    ring (pos c ∷ w ∷ place ∷ pos den ∷ m ∷ []) (var 0 ⊗ ((var 1 ⊗ var 2) ⊕ (var 3 ⊗ var 4))) ((var 1 ⊗ (var 0 ⊗ var 2)) ⊕ ((var 0 ⊗ var 3) ⊗ var 4)) refl in
    let q : (pos c *ℤ ((w *ℤ place) +ℤ (pos den *ℤ m))) <ℤ (pos c *ℤ pos 0) = mul-less (pos c) ((w *ℤ place) +ℤ (pos den *ℤ m)) (pos 0) (factor_positive c den scale whole some) short in
    let t : pos scale *ℤ m ≡ (pos c *ℤ pos den) *ℤ m = ap (λ z. z *ℤ m) scale_is in
    omega (arith, ints, r, q, t) in
    let within' : ((w *ℤ y) +ℤ (pos scale *ℤ m)) ≤ℤ pos 0 =
    let r : pos e *ℤ ((w *ℤ next) +ℤ (pos other *ℤ m)) ≡ (w *ℤ (pos e *ℤ next)) +ℤ ((pos e *ℤ pos other) *ℤ m) =
    ring (pos e ∷ w ∷ next ∷ pos other ∷ m ∷ []) (var 0 ⊗ ((var 1 ⊗ var 2) ⊕ (var 3 ⊗ var 4))) ((var 1 ⊗ (var 0 ⊗ var 2)) ⊕ ((var 0 ⊗ var 3) ⊗ var 4)) refl in
    let q : (pos e *ℤ ((w *ℤ next) +ℤ (pos other *ℤ m))) ≤ℤ (pos e *ℤ pos 0) = mul-mono (pos e) ((w *ℤ next) +ℤ (pos other *ℤ m)) (pos 0) (omega (arith, ints)) within in
    let t : pos scale *ℤ m ≡ (pos e *ℤ pos other) *ℤ m = ap (λ z. z *ℤ m) scale_is_too in
    omega (arith, ints, r, q, t) in
    let forward' : x <ℤ y = forward_scaled scale c den e other place next whole new_whole some forward in
    omega (arith, ints, old_sum, new_sum, squares_fall n u d (pos scale) x y forward' short' within')
