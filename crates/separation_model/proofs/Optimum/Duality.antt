-- Weak duality: what the multipliers push is never against a point that meets the bundle.
use Rattle.std.proofs.Common.{◌≡◌, ℕ, ℤ, pos, ◌+ℤ◌, ◌-ℤ◌, ◌*ℤ◌, ◌≤ℤ◌, List, [], ◌∷◌, length, refl, arith}
use Rattle.std.proofs.lemmas.Int.{ints}
use Rattle.separation_model.specs.declared.bundle.Item.{Item}
use Rattle.separation_model.specs.Sum.{sum_below}
use Rattle.separation_model.specs.Bundle.{item_at}
use Rattle.separation_model.specs.Least.{square, squared_displacement}
use Rattle.separation_model.proofs.Arithmetic.Ring.{ring, var, num, ◌⊕◌, ◌⊗◌, ◌⊖◌}
use Rattle.separation_model.proofs.Arithmetic.Order.{mul-nonneg, square-nonneg}
use Rattle.separation_model.proofs.Arithmetic.Sums.{sum_below-same, sum_below-add, sum_below-scale, sum_below-sign}

-- from the point X over d to the point Y over q, over the product of both
abbrev pub step : ℕ → ℕ → (ℕ → ℤ) → (ℕ → ℤ) → ℕ → ℤ
step d q X Y i = (pos d *ℤ Y i) -ℤ (pos q *ℤ X i)

-- twice the weighted displacement of the item at the index
abbrev pub force : List Item → ℕ → (ℕ → ℤ) → ℕ → ℤ
force items d X i = let item = item_at items i in pos 2 *ℤ pos item.weight *ℤ (X i -ℤ (pos d *ℤ item.want))

one_term : (d q w want x y : ℤ) →
    square d *ℤ (w *ℤ square (y -ℤ (q *ℤ want))) ≡
    (square q *ℤ (w *ℤ square (x -ℤ (d *ℤ want)))) +ℤ
    ((w *ℤ square ((d *ℤ y) -ℤ (q *ℤ x))) +ℤ (q *ℤ (((d *ℤ y) -ℤ (q *ℤ x)) *ℤ (pos 2 *ℤ w *ℤ (x -ℤ (d *ℤ want))))))
one_term d q w want x y =
    let v = var 5 ⊖ (var 1 ⊗ var 3) in
    let u = var 4 ⊖ (var 0 ⊗ var 3) in
    let s = (var 0 ⊗ var 5) ⊖ (var 1 ⊗ var 4) in
    ring (d ∷ q ∷ w ∷ want ∷ x ∷ y ∷ []) ((var 0 ⊗ var 0) ⊗ (var 2 ⊗ (v ⊗ v)))
    (((var 1 ⊗ var 1) ⊗ (var 2 ⊗ (u ⊗ u))) ⊕ ((var 2 ⊗ (s ⊗ s)) ⊕ (var 1 ⊗ (s ⊗ (num (pos 2) ⊗ var 2 ⊗ u)))))
    refl

-- the weighted square of the step
abbrev pub step_square : List Item → ℕ → ℕ → (ℕ → ℤ) → (ℕ → ℤ) → ℕ → ℤ
step_square items d q X Y i = pos (item_at items i).weight *ℤ square (step d q X Y i)

abbrev pub work : List Item → ℕ → ℕ → (ℕ → ℤ) → (ℕ → ℤ) → ℕ → ℤ
work items d q X Y i = step d q X Y i *ℤ force items d X i

-- the sum of squares at Y is that at X, with the squares of the step and what it goes along the force
pub displacement_along : (items : List Item) (d q : ℕ) (X Y : ℕ → ℤ) →
    square (pos d) *ℤ squared_displacement items q Y ≡
    (square (pos q) *ℤ squared_displacement items d X) +ℤ (sum_below (length items) (step_square items d q X Y) +ℤ (pos q *ℤ sum_below (length items) (work items d q X Y)))
displacement_along items d q X Y =
    let n = length items in
    let at_y = λ (i : ℕ). pos (item_at items i).weight *ℤ square (Y i -ℤ (pos q *ℤ (item_at items i).want)) in
    let at_x = λ (i : ℕ). pos (item_at items i).weight *ℤ square (X i -ℤ (pos d *ℤ (item_at items i).want)) in
    let squares = step_square items d q X Y in
    let works = work items d q X Y in
    let each = sum_below-same n (λ i. square (pos d) *ℤ at_y i) (λ i. (square (pos q) *ℤ at_x i) +ℤ (squares i +ℤ (pos q *ℤ works i)))
    (λ i l. one_term (pos d) (pos q) (pos (item_at items i).weight) (item_at items i).want (X i) (Y i)) in
    omega (
      arith,
      ints,
      each,
      sum_below-scale (square (pos d)) n at_y,
      sum_below-scale (square (pos q)) n at_x,
      sum_below-scale (pos q) n works,
      sum_below-add n (λ i. square (pos q) *ℤ at_x i) (λ i. squares i +ℤ (pos q *ℤ works i)),
      sum_below-add n squares (λ i. pos q *ℤ works i),
    )

-- a point that is not against the force has no lower sum
pub displacement_least : (items : List Item) (d q : ℕ) (X Y : ℕ → ℤ) → pos 0 ≤ℤ sum_below (length items) (work items d q X Y) →
    (square (pos q) *ℤ squared_displacement items d X) ≤ℤ (square (pos d) *ℤ squared_displacement items q Y)
displacement_least items d q X Y h =
    let n = length items in
    let squares : pos 0 ≤ℤ sum_below n (step_square items d q X Y) =
    sum_below-sign n (step_square items d q X Y) (λ i l. mul-nonneg (pos (item_at items i).weight) (square (step d q X Y i)) (omega (arith, ints)) (square-nonneg (step d q X Y i))) in
    let works : pos 0 ≤ℤ (pos q *ℤ sum_below n (work items d q X Y)) = mul-nonneg (pos q) (sum_below n (work items d q X Y)) (omega (arith, ints)) h in
    omega (arith, ints, displacement_along items d q X Y)
