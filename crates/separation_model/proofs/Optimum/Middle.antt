-- Uniqueness: the middle of two least points is nearer to the wants, unless they are equal.
use Rattle.std.proofs.Common.{◌≡◌, ℕ, ◌*◌, ◌<◌, ℤ, pos, ◌+ℤ◌, ◌-ℤ◌, ◌*ℤ◌, ◌≤ℤ◌, List, [], ◌∷◌, length, ap, refl, ◌∙◌, arith}
use Rattle.std.specs.Prelude.{slice_index, slice_index_or, EachIndex}
use Rattle.std.proofs.lemmas.Int.{ints}
use Rattle.separation_model.specs.declared.bundle.Item.{Item}
use Rattle.separation_model.specs.declared.bundle.Bundle.{Bundle}
use Rattle.separation_model.specs.Sum.{sum_below, product}
use Rattle.separation_model.specs.Bundle.{IsBundle, item_at, int_at, asked, no_item}
use Rattle.separation_model.specs.Least.{IsLeast, square, squared_displacement, over_product}
use Rattle.separation_model.proofs.Arithmetic.Ring.{ring, var, num, ◌⊕◌, ◌⊗◌, ◌⊖◌, mul_comm}
use Rattle.separation_model.proofs.Arithmetic.Order.{mul-nonneg, mul-mono, cancel, cancel_le, square-nonneg, square_zero, nat_mul_positive}
use Rattle.separation_model.proofs.Arithmetic.Sums.{sum_below-same, sum_below-add, sum_below-scale, part_of_sum}
use Rattle.separation_model.proofs.Optimum.Positions.{MeetsOver, over_product_meets, listed, listed_meets, int_at-listed, share, share_is, share_positive}

-- against a point that is given by a function
pub least_over : (b : Bundle) (gap : ℤ) (den : List ℕ) (place : List ℤ) → IsBundle b → IsLeast b gap den place → (q : ℕ) (Y : ℕ → ℤ) → MeetsOver b gap q Y →
    (square (pos q) *ℤ squared_displacement b.items.items (product den) (over_product den place)) ≤ℤ (square (pos (product den)) *ℤ squared_displacement b.items.items q Y)
least_over b gap den place ok least q Y m =
    let n = length b.items.items in
    let D = pos (product den) in
    let each = sum_below-same n
    (λ i. pos (item_at b.items.items i).weight *ℤ square (int_at (listed n Y) i -ℤ (pos q *ℤ (item_at b.items.items i).want)))
    (λ i. pos (item_at b.items.items i).weight *ℤ square (Y i -ℤ (pos q *ℤ (item_at b.items.items i).want)))
    (λ i l. ap (λ x. pos (item_at b.items.items i).weight *ℤ square (x -ℤ (pos q *ℤ (item_at b.items.items i).want))) (int_at-listed n Y i l)) in
    let e : square D *ℤ squared_displacement b.items.items q (int_at (listed n Y)) ≡ square D *ℤ squared_displacement b.items.items q Y = ap (λ x. square D *ℤ x) each in
    omega (arith, ints, e, least.least q (listed n Y) m.positive (listed_meets b gap q Y ok m))

-- half way between two points, over twice the product of their denominators
abbrev pub middle : ℕ → ℕ → (ℕ → ℤ) → (ℕ → ℤ) → ℕ → ℤ
middle d e X Y i = (X i *ℤ pos e) +ℤ (Y i *ℤ pos d)

middle_limit : (l x y : ℤ) (d e : ℕ) → (l *ℤ pos d) ≤ℤ x → (l *ℤ pos e) ≤ℤ y → (l *ℤ pos (2 * (d * e))) ≤ℤ ((x *ℤ pos e) +ℤ (y *ℤ pos d))
middle_limit l x y d e h k =
    let f : l *ℤ pos (2 * (d * e)) ≡ (pos e *ℤ (l *ℤ pos d)) +ℤ (pos d *ℤ (l *ℤ pos e)) =
    ring (l ∷ pos d ∷ pos e ∷ []) (var 0 ⊗ (num (pos 2) ⊗ (var 1 ⊗ var 2))) ((var 2 ⊗ (var 0 ⊗ var 1)) ⊕ (var 1 ⊗ (var 0 ⊗ var 2))) refl in
    omega (arith, ints, f, mul-mono (pos e) (l *ℤ pos d) x (omega (arith, ints)) h, mul-mono (pos d) (l *ℤ pos e) y (omega (arith, ints)) k, mul_comm x (pos e), mul_comm y (pos d))

middle_upper : (l x y : ℤ) (d e : ℕ) → x ≤ℤ (l *ℤ pos d) → y ≤ℤ (l *ℤ pos e) → ((x *ℤ pos e) +ℤ (y *ℤ pos d)) ≤ℤ (l *ℤ pos (2 * (d * e)))
middle_upper l x y d e h k =
    let f : l *ℤ pos (2 * (d * e)) ≡ (pos e *ℤ (l *ℤ pos d)) +ℤ (pos d *ℤ (l *ℤ pos e)) =
    ring (l ∷ pos d ∷ pos e ∷ []) (var 0 ⊗ (num (pos 2) ⊗ (var 1 ⊗ var 2))) ((var 2 ⊗ (var 0 ⊗ var 1)) ⊕ (var 1 ⊗ (var 0 ⊗ var 2))) refl in
    omega (arith, ints, f, mul-mono (pos e) x (l *ℤ pos d) (omega (arith, ints)) h, mul-mono (pos d) y (l *ℤ pos e) (omega (arith, ints)) k, mul_comm x (pos e), mul_comm y (pos d))

pub middle_meets : (b : Bundle) (gap : ℤ) (d e : ℕ) (X Y : ℕ → ℤ) → MeetsOver b gap d X → MeetsOver b gap e Y → MeetsOver b gap (2 * (d * e)) (middle d e X Y)
middle_meets b gap d e X Y m n = record {
  positive = nat_mul_positive 2 (d * e) (omega arith) (nat_mul_positive d e m.positive n.positive);
  low = λ i l. middle_limit (item_at b.items.items i).lo (X i) (Y i) d e (m.low i l) (n.low i l);
  high = λ i l. middle_upper (item_at b.items.items i).hi (X i) (Y i) d e (m.high i l) (n.high i l);
  rules = λ k o l.
      let r = slice_index_or b.rules.items k o in
      let f : ((X r.right -ℤ X r.left) *ℤ pos e) +ℤ ((Y r.right -ℤ Y r.left) *ℤ pos d) ≡ middle d e X Y r.right -ℤ middle d e X Y r.left =
      ring (X r.right ∷ X r.left ∷ Y r.right ∷ Y r.left ∷ pos d ∷ pos e ∷ []) (((var 0 ⊖ var 1) ⊗ var 5) ⊕ ((var 2 ⊖ var 3) ⊗ var 4)) (((var 0 ⊗ var 5) ⊕ (var 2 ⊗ var 4)) ⊖ ((var 1 ⊗ var 5) ⊕ (var 3 ⊗ var 4))) refl in
      omega (arith, ints, f, middle_limit (asked gap r) (X r.right -ℤ X r.left) (Y r.right -ℤ Y r.left) d e (m.rules k o l) (n.rules k o l));
}

-- how far apart the two points stand, over the product of their denominators
abbrev pub apart : ℕ → ℕ → (ℕ → ℤ) → (ℕ → ℤ) → ℕ → ℤ
apart d e X Y i = (X i *ℤ pos e) -ℤ (Y i *ℤ pos d)

one_parallelogram : (w want x y d e : ℤ) →
    (w *ℤ square (((x *ℤ e) +ℤ (y *ℤ d)) -ℤ ((pos 2 *ℤ (d *ℤ e)) *ℤ want))) +ℤ (w *ℤ square ((x *ℤ e) -ℤ (y *ℤ d))) ≡
    ((pos 2 *ℤ square e) *ℤ (w *ℤ square (x -ℤ (d *ℤ want)))) +ℤ ((pos 2 *ℤ square d) *ℤ (w *ℤ square (y -ℤ (e *ℤ want))))
one_parallelogram w want x y d e =
    let u = var 2 ⊖ (var 4 ⊗ var 1) in
    let v = var 3 ⊖ (var 5 ⊗ var 1) in
    let m = ((var 2 ⊗ var 5) ⊕ (var 3 ⊗ var 4)) ⊖ ((num (pos 2) ⊗ (var 4 ⊗ var 5)) ⊗ var 1) in
    let a = (var 2 ⊗ var 5) ⊖ (var 3 ⊗ var 4) in
    ring (w ∷ want ∷ x ∷ y ∷ d ∷ e ∷ []) ((var 0 ⊗ (m ⊗ m)) ⊕ (var 0 ⊗ (a ⊗ a)))
    (((num (pos 2) ⊗ (var 5 ⊗ var 5)) ⊗ (var 0 ⊗ (u ⊗ u))) ⊕ ((num (pos 2) ⊗ (var 4 ⊗ var 4)) ⊗ (var 0 ⊗ (v ⊗ v)))) refl

abbrev pub apart_square : List Item → ℕ → ℕ → (ℕ → ℤ) → (ℕ → ℤ) → ℕ → ℤ
apart_square items d e X Y i = pos (item_at items i).weight *ℤ square (apart d e X Y i)

parallelogram : (items : List Item) (d e : ℕ) (X Y : ℕ → ℤ) →
    squared_displacement items (2 * (d * e)) (middle d e X Y) +ℤ sum_below (length items) (apart_square items d e X Y) ≡
    ((pos 2 *ℤ square (pos e)) *ℤ squared_displacement items d X) +ℤ ((pos 2 *ℤ square (pos d)) *ℤ squared_displacement items e Y)
parallelogram items d e X Y =
    let n = length items in
    let at = λ (q : ℕ) (Z : ℕ → ℤ) (i : ℕ). pos (item_at items i).weight *ℤ square (Z i -ℤ (pos q *ℤ (item_at items i).want)) in
    let two_e = pos 2 *ℤ square (pos e) in
    let two_d = pos 2 *ℤ square (pos d) in
    let each = sum_below-same n (λ i. at (2 * (d * e)) (middle d e X Y) i +ℤ apart_square items d e X Y i) (λ i. (two_e *ℤ at d X i) +ℤ (two_d *ℤ at e Y i))
    (λ i l. one_parallelogram (pos (item_at items i).weight) (item_at items i).want (X i) (Y i) (pos d) (pos e)) in
    omega (
      arith,
      ints,
      each,
      sum_below-add n (at (2 * (d * e)) (middle d e X Y)) (apart_square items d e X Y),
      sum_below-add n (λ i. two_e *ℤ at d X i) (λ i. two_d *ℤ at e Y i),
      sum_below-scale two_e n (at d X),
      sum_below-scale two_d n (at e Y),
    )

-- two least points stand nowhere apart
none_apart : (b : Bundle) (gap : ℤ) (den other_den : List ℕ) (place other : List ℤ) → IsBundle b → IsLeast b gap den place → IsLeast b gap other_den other →
    sum_below (length b.items.items) (apart_square b.items.items (product den) (product other_den) (over_product den place) (over_product other_den other)) ≤ℤ pos 0
none_apart b gap den other_den place other ok one two =
    let items = b.items.items in
    let d = product den in
    let e = product other_den in
    let X = over_product den place in
    let Y = over_product other_den other in
    let at_x = over_product_meets b gap den place ok one.meets in
    let at_y = over_product_meets b gap other_den other ok two.meets in
    let f = squared_displacement items d X in
    let g = squared_displacement items e Y in
    let h = squared_displacement items (2 * (d * e)) (middle d e X Y) in
    let near = least_over b gap den place ok one (2 * (d * e)) (middle d e X Y) (middle_meets b gap d e X Y at_x at_y) in
    let back = least_over b gap other_den other ok two d X at_x in
    let scaled : pos (d * d) *ℤ (pos 4 *ℤ (square (pos e) *ℤ f)) ≡ square (pos (2 * (d * e))) *ℤ f =
    ring (pos d ∷ pos e ∷ f ∷ []) ((var 0 ⊗ var 0) ⊗ (num (pos 4) ⊗ ((var 1 ⊗ var 1) ⊗ var 2))) (((num (pos 2) ⊗ (var 0 ⊗ var 1)) ⊗ (num (pos 2) ⊗ (var 0 ⊗ var 1))) ⊗ var 2) refl in
    let four : (pos 4 *ℤ (square (pos e) *ℤ f)) ≤ℤ h = cancel_le (d * d) (pos 4 *ℤ (square (pos e) *ℤ f)) h (nat_mul_positive d d at_x.positive at_x.positive) (omega (arith, ints, near, scaled)) in
    let left : (pos 2 *ℤ square (pos e)) *ℤ f ≡ pos 2 *ℤ (square (pos e) *ℤ f) = ring (pos e ∷ f ∷ []) ((num (pos 2) ⊗ (var 0 ⊗ var 0)) ⊗ var 1) (num (pos 2) ⊗ ((var 0 ⊗ var 0) ⊗ var 1)) refl in
    let right : (pos 2 *ℤ square (pos d)) *ℤ g ≡ pos 2 *ℤ (square (pos d) *ℤ g) = ring (pos d ∷ g ∷ []) ((num (pos 2) ⊗ (var 0 ⊗ var 0)) ⊗ var 1) (num (pos 2) ⊗ ((var 0 ⊗ var 0) ⊗ var 1)) refl in
    omega (arith, ints, parallelogram items d e X Y, four, back, left, right)

pub one_place : (b : Bundle) (gap : ℤ) (den other_den : List ℕ) (place other : List ℤ) → IsBundle b → IsLeast b gap den place → IsLeast b gap other_den other →
    EachIndex place (λ i. (int_at place i *ℤ pos (slice_index other_den i)) ≡ (int_at other i *ℤ pos (slice_index den i)))
one_place b gap den other_den place other ok one two i in' =
    let items = b.items.items in
    let d = product den in
    let e = product other_den in
    let X = over_product den place in
    let Y = over_product other_den other in
    let l : i < length items = omega (arith, in', one.meets.places) in
    let item = ok.items i no_item l in
    let part = part_of_sum (length items) (apart_square items d e X Y) i l
    (λ k m. mul-nonneg (pos (item_at items k).weight) (square (apart d e X Y k)) (omega (arith, ints)) (square-nonneg (apart d e X Y k))) in
    let none : apart d e X Y i ≡ pos 0 = square_zero (item_at items i).weight (apart d e X Y i) (omega (arith, item.weight_low)) (omega (arith, ints, part, none_apart b gap den other_den place other ok one two)) in
    let s = share den i in
    let t = share other_den i in
    let d_is : pos s *ℤ pos (slice_index den i) ≡ pos d = ap pos (share_is den i one.meets.positive (omega (arith, l, one.meets.dens))) in
    let e_is : pos t *ℤ pos (slice_index other_den i) ≡ pos e = ap pos (share_is other_den i two.meets.positive (omega (arith, l, two.meets.dens))) in
    let p = int_at place i in
    let q = int_at other i in
    let left : pos (s * t) *ℤ (p *ℤ pos (slice_index other_den i)) ≡ X i *ℤ pos e =
    ring (p ∷ pos s ∷ pos t ∷ pos (slice_index other_den i) ∷ []) ((var 1 ⊗ var 2) ⊗ (var 0 ⊗ var 3)) ((var 0 ⊗ var 1) ⊗ (var 2 ⊗ var 3)) refl ∙ ap (λ x. X i *ℤ x) e_is in
    let right : pos (s * t) *ℤ (q *ℤ pos (slice_index den i)) ≡ Y i *ℤ pos d =
    ring (q ∷ pos s ∷ pos t ∷ pos (slice_index den i) ∷ []) ((var 1 ⊗ var 2) ⊗ (var 0 ⊗ var 3)) ((var 0 ⊗ var 2) ⊗ (var 1 ⊗ var 3)) refl ∙ ap (λ x. Y i *ℤ x) d_is in
    cancel (s * t) (p *ℤ pos (slice_index other_den i)) (q *ℤ pos (slice_index den i))
    (nat_mul_positive s t (share_positive den i one.meets.positive (omega (arith, l, one.meets.dens))) (share_positive other_den i two.meets.positive (omega (arith, l, two.meets.dens))))
    (omega (arith, ints, none, left, right))
