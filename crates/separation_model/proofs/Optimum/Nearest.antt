-- Some: least points under equalities and inequalities, by induction on the inequalities.
use Rattle.std.proofs.Common.{◌≡◌, ℕ, ◌+◌, ◌*◌, ◌<◌, ◌≤◌, ℤ, pos, ◌+ℤ◌, ◌-ℤ◌, ◌*ℤ◌, ◌≤ℤ◌, ◌<ℤ◌, List, [], ◌∷◌, length, map, ap, refl, ◌∙◌, arith}
use Rattle.std.specs.List.{AllByRecursion}
use Rattle.std.proofs.lemmas.Int.{ints, by_lt_z}
use Rattle.separation_model.specs.declared.bundle.Item.{Item}
use Rattle.separation_model.specs.Sum.{sum_below}
use Rattle.separation_model.specs.Bundle.{item_at}
use Rattle.separation_model.specs.Least.{square, squared_displacement}
use Rattle.separation_model.proofs.Arithmetic.Ring.{ring, var, num, ◌⊕◌, ◌⊗◌, ◌⊖◌}
use Rattle.separation_model.proofs.Arithmetic.Order.{mul-nonneg, mul-mono, square-nonneg, nonneg_is, cancel_le, nat_mul_positive}
use Rattle.separation_model.proofs.Arithmetic.Sums.{sum_below-same, sum_below-add, sum_below-scale, sum_below-sign}
use Rattle.separation_model.proofs.Optimum.Duality.{step, work, displacement_least}
use Rattle.separation_model.proofs.Optimum.Projection.{dot, dot_right, IsFlat, beside, gradient}

-- a linear form, and the least that it has to be
pub record Constraint : Type 0 where
  pub form : ℕ → ℤ
  pub least : ℤ

abbrev pub IsEven : ℕ → ℕ → (ℕ → ℤ) → Constraint → Type 0
IsEven n d X c = dot n c.form X ≡ c.least *ℤ pos d

abbrev pub IsKept : ℕ → ℕ → (ℕ → ℤ) → Constraint → Type 0
IsKept n d X c = (c.least *ℤ pos d) ≤ℤ dot n c.form X

-- the point X / d meets the equalities and the inequalities
pub record FitsIn (n : ℕ) (even kept : List Constraint) (d : ℕ) (X : ℕ → ℤ) : Type 0 where
  pub positive : 0 < d
  pub even_all : AllByRecursion (IsEven n d X) even
  pub kept_all : AllByRecursion (IsKept n d X) kept

-- a point that meets them, of which no other has a lower sum
pub record HasBest (items : List Item) (even kept : List Constraint) : Type 0 where
  pub den : ℕ
  pub point : ℕ → ℤ
  pub fits : FitsIn (length items) even kept den point
  pub best : (q : ℕ) (Y : ℕ → ℤ) → FitsIn (length items) even kept q Y →
      (square (pos q) *ℤ squared_displacement items den point) ≤ℤ (square (pos den) *ℤ squared_displacement items q Y)

abbrev pub forms_of : List Constraint → List (ℕ → ℤ)
forms_of = map (λ (c : Constraint). c.form)

even_shifted : (n : ℕ) (even : List Constraint) (q d : ℕ) (P h : ℕ → ℤ) → AllByRecursion (IsEven n q P) even → IsFlat n (forms_of even) h → AllByRecursion (IsEven n (d * q) (λ i. (pos d *ℤ P i) +ℤ (pos 1 *ℤ h i))) even
even_shifted n [] q d P h e f = tt
even_shifted n (c ∷ cs) q d P h e f =
    let a : pos d *ℤ dot n c.form P ≡ pos d *ℤ (c.least *ℤ pos q) = ap (λ z. pos d *ℤ z) e.0 in
    let b : pos d *ℤ (c.least *ℤ pos q) ≡ c.least *ℤ pos (d * q) = ring (pos d ∷ c.least ∷ pos q ∷ []) (var 0 ⊗ (var 1 ⊗ var 2)) (var 1 ⊗ (var 0 ⊗ var 2)) refl in
    let g : pos 1 *ℤ dot n c.form h ≡ pos 1 *ℤ pos 0 = ap (λ z. pos 1 *ℤ z) f.0 in
    (omega (arith, ints, a, b, g, dot_right n c.form P h (pos d) (pos 1)), even_shifted n cs q d P h e.1 f.1)

step_as : (d q : ℕ) (X Y : ℕ → ℤ) (i : ℕ) → step d q X Y i ≡ (pos d *ℤ Y i) +ℤ ((pos 0 -ℤ pos q) *ℤ X i)
step_as d q X Y i = ring (pos d ∷ pos q ∷ X i ∷ Y i ∷ []) ((var 0 ⊗ var 3) ⊖ (var 1 ⊗ var 2)) ((var 0 ⊗ var 3) ⊕ ((num (pos 0) ⊖ var 1) ⊗ var 2)) refl

step_flat : (n : ℕ) (even : List Constraint) (d q : ℕ) (X Y : ℕ → ℤ) → AllByRecursion (IsEven n d X) even → AllByRecursion (IsEven n q Y) even → IsFlat n (forms_of even) (step d q X Y)
step_flat n [] d q X Y e f = tt
step_flat n (c ∷ cs) d q X Y e f =
    let m = pos 0 -ℤ pos q in
    let each = sum_below-same n (λ i. c.form i *ℤ step d q X Y i) (λ i. c.form i *ℤ ((pos d *ℤ Y i) +ℤ (m *ℤ X i))) (λ i l. ap (λ z. c.form i *ℤ z) (step_as d q X Y i)) in
    let a : pos d *ℤ dot n c.form Y ≡ pos d *ℤ (c.least *ℤ pos q) = ap (λ z. pos d *ℤ z) f.0 in
    let b : m *ℤ dot n c.form X ≡ m *ℤ (c.least *ℤ pos d) = ap (λ z. m *ℤ z) e.0 in
    let g : (pos d *ℤ (c.least *ℤ pos q)) +ℤ (m *ℤ (c.least *ℤ pos d)) ≡ pos 0 = ring (pos d ∷ pos q ∷ c.least ∷ []) ((var 0 ⊗ (var 2 ⊗ var 1)) ⊕ ((num (pos 0) ⊖ var 1) ⊗ (var 2 ⊗ var 0))) (num (pos 0)) refl in
    (omega (arith, ints, each, a, b, g, dot_right n c.form Y X (pos d) m), step_flat n cs d q X Y e.1 f.1)

module _ (items : List Item) (small : (i : ℕ) → i < length items → (1 ≤ (item_at items i).weight) × ((item_at items i).weight ≤ 4)) where
  abbrev n : ℕ
  n = length items

  -- no inequalities: the point moved by the gradient of the way to the wants
  pub best_even : (even : List Constraint) (q : ℕ) (P : ℕ → ℤ) → FitsIn n even [] q P → HasBest items even []
  best_even even q P fits =
      let w = λ (i : ℕ). (item_at items i).weight in
      let g = λ (i : ℕ). pos (w i) *ℤ ((pos q *ℤ (item_at items i).want) -ℤ P i) in
      let h = gradient n w small (forms_of even) g in
      let d = h.den * q in
      let X = λ (i : ℕ). (pos h.den *ℤ P i) +ℤ (pos 1 *ℤ h.point i) in
      let here : FitsIn n even [] d X = record { positive = nat_mul_positive h.den q h.positive fits.positive; even_all = even_shifted n even q h.den P h.point fits.even_all h.flat; kept_all = tt } in
      record {
        den = d;
        point = X;
        fits = here;
        best = λ r Y there.
            let each = sum_below-same n (work items d r X Y) (λ i. pos 2 *ℤ (beside w h.point h.den g i *ℤ step d r X Y i))
            (λ i l. ring (pos (w i) ∷ (item_at items i).want ∷ P i ∷ h.point i ∷ pos h.den ∷ pos q ∷ step d r X Y i ∷ [])
            (var 6 ⊗ (num (pos 2) ⊗ var 0 ⊗ (((var 4 ⊗ var 2) ⊕ (num (pos 1) ⊗ var 3)) ⊖ ((var 4 ⊗ var 5) ⊗ var 1))))
            (num (pos 2) ⊗ (((var 0 ⊗ var 3) ⊖ (var 4 ⊗ (var 0 ⊗ ((var 5 ⊗ var 1) ⊖ var 2)))) ⊗ var 6)) refl) in
            let none = h.normal (step d r X Y) (step_flat n even d r X Y here.even_all there.even_all) in
            let sum : pos 0 ≤ℤ sum_below n (work items d r X Y) = omega (arith, ints, each, none, sum_below-scale (pos 2) n (λ i. beside w h.point h.den g i *ℤ step d r X Y i)) in
            displacement_least items d r X Y sum;
      }

-- the point between X / d and Y / q that divides the way by b to a
abbrev pub between : ℕ → ℕ → (ℕ → ℤ) → (ℕ → ℤ) → ℕ → ℤ
between a b X Y i = (pos a *ℤ X i) +ℤ (pos b *ℤ Y i)

least_between : (least : ℤ) (a b d q : ℕ) → (pos a *ℤ (least *ℤ pos d)) +ℤ (pos b *ℤ (least *ℤ pos q)) ≡ least *ℤ pos (a * d + b * q)
least_between least a b d q = ring (least ∷ pos a ∷ pos b ∷ pos d ∷ pos q ∷ []) ((var 1 ⊗ (var 0 ⊗ var 3)) ⊕ (var 2 ⊗ (var 0 ⊗ var 4))) (var 0 ⊗ ((var 1 ⊗ var 3) ⊕ (var 2 ⊗ var 4))) refl

between_even : (n : ℕ) (even : List Constraint) (a b d q : ℕ) (X Y : ℕ → ℤ) → AllByRecursion (IsEven n d X) even → AllByRecursion (IsEven n q Y) even → AllByRecursion (IsEven n (a * d + b * q) (between a b X Y)) even
between_even n [] a b d q X Y e f = tt
between_even n (c ∷ cs) a b d q X Y e f =
    let x : pos a *ℤ dot n c.form X ≡ pos a *ℤ (c.least *ℤ pos d) = ap (λ z. pos a *ℤ z) e.0 in
    let y : pos b *ℤ dot n c.form Y ≡ pos b *ℤ (c.least *ℤ pos q) = ap (λ z. pos b *ℤ z) f.0 in
    (omega (arith, ints, x, y, least_between c.least a b d q, dot_right n c.form X Y (pos a) (pos b)), between_even n cs a b d q X Y e.1 f.1)

between_kept : (n : ℕ) (kept : List Constraint) (a b d q : ℕ) (X Y : ℕ → ℤ) → AllByRecursion (IsKept n d X) kept → AllByRecursion (IsKept n q Y) kept → AllByRecursion (IsKept n (a * d + b * q) (between a b X Y)) kept
between_kept n [] a b d q X Y e f = tt
between_kept n (c ∷ cs) a b d q X Y e f =
    let x = mul-mono (pos a) (c.least *ℤ pos d) (dot n c.form X) (omega (arith, ints)) e.0 in
    let y = mul-mono (pos b) (c.least *ℤ pos q) (dot n c.form Y) (omega (arith, ints)) f.0 in
    (omega (arith, ints, x, y, least_between c.least a b d q, dot_right n c.form X Y (pos a) (pos b)), between_kept n cs a b d q X Y e.1 f.1)

-- where the way from X to Y crosses the constraint
pub record IsCrossing (n : ℕ) (c : Constraint) (a b d q : ℕ) (X Y : ℕ → ℤ) : Type 0 where
  pub over : dot n c.form Y ≡ (c.least *ℤ pos q) +ℤ pos a
  pub under : dot n c.form X +ℤ pos b ≡ c.least *ℤ pos d
  pub some : 0 < b

crossing_fits : (n : ℕ) (even kept : List Constraint) (c : Constraint) (a b d q : ℕ) (X Y : ℕ → ℤ) → FitsIn n even kept d X → FitsIn n even kept q Y → IsCrossing n c a b d q X Y → FitsIn n (c ∷ even) kept (a * d + b * q) (between a b X Y)
crossing_fits n even kept c a b d q X Y x y at =
    let under : pos a *ℤ (dot n c.form X +ℤ pos b) ≡ pos a *ℤ (c.least *ℤ pos d) = ap (λ z. pos a *ℤ z) at.under in
    let over : pos b *ℤ dot n c.form Y ≡ pos b *ℤ ((c.least *ℤ pos q) +ℤ pos a) = ap (λ z. pos b *ℤ z) at.over in
    let e : pos a *ℤ (dot n c.form X +ℤ pos b) ≡ (pos a *ℤ dot n c.form X) +ℤ (pos a *ℤ pos b) = ring (pos a ∷ pos b ∷ dot n c.form X ∷ []) (var 0 ⊗ (var 2 ⊕ var 1)) ((var 0 ⊗ var 2) ⊕ (var 0 ⊗ var 1)) refl in
    let f : pos b *ℤ ((c.least *ℤ pos q) +ℤ pos a) ≡ (pos b *ℤ (c.least *ℤ pos q)) +ℤ (pos a *ℤ pos b) = ring (pos a ∷ pos b ∷ (c.least *ℤ pos q) ∷ []) (var 1 ⊗ (var 2 ⊕ var 0)) ((var 1 ⊗ var 2) ⊕ (var 0 ⊗ var 1)) refl in
    record {
      positive = omega (arith, nat_mul_positive b q at.some y.positive);
      even_all = (omega (arith, ints, under, over, e, f, least_between c.least a b d q, dot_right n c.form X Y (pos a) (pos b)), between_even n even a b d q X Y x.even_all y.even_all);
      kept_all = between_kept n kept a b d q X Y x.kept_all y.kept_all;
    }

one_apart : (w want x y d q : ℤ) → w *ℤ square ((q *ℤ (x -ℤ (d *ℤ want))) -ℤ (d *ℤ (y -ℤ (q *ℤ want)))) ≡
    ((square q *ℤ (w *ℤ square (x -ℤ (d *ℤ want)))) +ℤ (square d *ℤ (w *ℤ square (y -ℤ (q *ℤ want))))) +ℤ ((pos 0 -ℤ (pos 2 *ℤ (q *ℤ d))) *ℤ (w *ℤ ((x -ℤ (d *ℤ want)) *ℤ (y -ℤ (q *ℤ want)))))
one_apart w want x y d q =
    let u = var 2 ⊖ (var 4 ⊗ var 1) in
    let v = var 3 ⊖ (var 5 ⊗ var 1) in
    ring (w ∷ want ∷ x ∷ y ∷ d ∷ q ∷ []) (var 0 ⊗ (((var 5 ⊗ u) ⊖ (var 4 ⊗ v)) ⊗ ((var 5 ⊗ u) ⊖ (var 4 ⊗ v))))
    ((((var 5 ⊗ var 5) ⊗ (var 0 ⊗ (u ⊗ u))) ⊕ ((var 4 ⊗ var 4) ⊗ (var 0 ⊗ (v ⊗ v)))) ⊕ ((num (pos 0) ⊖ (num (pos 2) ⊗ (var 5 ⊗ var 4))) ⊗ (var 0 ⊗ (u ⊗ v)))) refl

one_between : (w want x y d q a b : ℤ) → w *ℤ square (((a *ℤ x) +ℤ (b *ℤ y)) -ℤ (((a *ℤ d) +ℤ (b *ℤ q)) *ℤ want)) ≡
    ((square a *ℤ (w *ℤ square (x -ℤ (d *ℤ want)))) +ℤ (square b *ℤ (w *ℤ square (y -ℤ (q *ℤ want))))) +ℤ ((pos 2 *ℤ (a *ℤ b)) *ℤ (w *ℤ ((x -ℤ (d *ℤ want)) *ℤ (y -ℤ (q *ℤ want)))))
one_between w want x y d q a b =
    let u = var 2 ⊖ (var 4 ⊗ var 1) in
    let v = var 3 ⊖ (var 5 ⊗ var 1) in
    let m = ((var 6 ⊗ var 2) ⊕ (var 7 ⊗ var 3)) ⊖ (((var 6 ⊗ var 4) ⊕ (var 7 ⊗ var 5)) ⊗ var 1) in
    ring (w ∷ want ∷ x ∷ y ∷ d ∷ q ∷ a ∷ b ∷ []) (var 0 ⊗ (m ⊗ m))
    ((((var 6 ⊗ var 6) ⊗ (var 0 ⊗ (u ⊗ u))) ⊕ ((var 7 ⊗ var 7) ⊗ (var 0 ⊗ (v ⊗ v)))) ⊕ ((num (pos 2) ⊗ (var 6 ⊗ var 7)) ⊗ (var 0 ⊗ (u ⊗ v)))) refl

-- three sums, each times a number
three_sums : (n : ℕ) (f g h total : ℕ → ℤ) (r s t : ℤ) → ((i : ℕ) → i < n → total i ≡ ((r *ℤ f i) +ℤ (s *ℤ g i)) +ℤ (t *ℤ h i)) → sum_below n total ≡ ((r *ℤ sum_below n f) +ℤ (s *ℤ sum_below n g)) +ℤ (t *ℤ sum_below n h)
three_sums n f g h total r s t e =
    omega (
      arith,
      ints,
      sum_below-same n total (λ i. ((r *ℤ f i) +ℤ (s *ℤ g i)) +ℤ (t *ℤ h i)) e,
      sum_below-add n (λ i. (r *ℤ f i) +ℤ (s *ℤ g i)) (λ i. t *ℤ h i),
      sum_below-add n (λ i. r *ℤ f i) (λ i. s *ℤ g i),
      sum_below-scale r n f,
      sum_below-scale s n g,
      sum_below-scale t n h,
    )

-- a point between two is no further from the wants than the further one
between_nearer : (items : List Item) (a b d q : ℕ) (X Y : ℕ → ℤ) → 0 < d → 0 < q →
    (square (pos q) *ℤ squared_displacement items d X) ≤ℤ (square (pos d) *ℤ squared_displacement items q Y) →
    (square (pos q) *ℤ squared_displacement items (a * d + b * q) (between a b X Y)) ≤ℤ (square (pos (a * d + b * q)) *ℤ squared_displacement items q Y)
between_nearer items a b d q X Y dp qp h =
    let n = length items in
    let at = λ (e : ℕ) (Z : ℕ → ℤ) (i : ℕ). pos (item_at items i).weight *ℤ square (Z i -ℤ (pos e *ℤ (item_at items i).want)) in
    let mixed = λ (i : ℕ). pos (item_at items i).weight *ℤ ((X i -ℤ (pos d *ℤ (item_at items i).want)) *ℤ (Y i -ℤ (pos q *ℤ (item_at items i).want))) in
    let away = λ (i : ℕ). pos (item_at items i).weight *ℤ square ((pos q *ℤ (X i -ℤ (pos d *ℤ (item_at items i).want))) -ℤ (pos d *ℤ (Y i -ℤ (pos q *ℤ (item_at items i).want)))) in
    let F = squared_displacement items d X in
    let G = squared_displacement items q Y in
    let S = sum_below n mixed in
    let T = squared_displacement items (a * d + b * q) (between a b X Y) in
    let apart = three_sums n (at d X) (at q Y) mixed away (square (pos q)) (square (pos d)) (pos 0 -ℤ (pos 2 *ℤ (pos q *ℤ pos d)))
    (λ i l. one_apart (pos (item_at items i).weight) (item_at items i).want (X i) (Y i) (pos d) (pos q)) in
    let inside = three_sums n (at d X) (at q Y) mixed (at (a * d + b * q) (between a b X Y)) (square (pos a)) (square (pos b)) (pos 2 *ℤ (pos a *ℤ pos b))
    (λ i l. one_between (pos (item_at items i).weight) (item_at items i).want (X i) (Y i) (pos d) (pos q) (pos a) (pos b)) in
    let sign = sum_below-sign n away (λ k m. mul-nonneg (pos (item_at items k).weight) (square ((pos q *ℤ (X k -ℤ (pos d *ℤ (item_at items k).want))) -ℤ (pos d *ℤ (Y k -ℤ (pos q *ℤ (item_at items k).want))))) (omega (arith, ints)) (square-nonneg ((pos q *ℤ (X k -ℤ (pos d *ℤ (item_at items k).want))) -ℤ (pos d *ℤ (Y k -ℤ (pos q *ℤ (item_at items k).want)))))) in
    let left : pos (2 * d) *ℤ (pos q *ℤ S) ≡ pos 0 -ℤ ((pos 0 -ℤ (pos 2 *ℤ (pos q *ℤ pos d))) *ℤ S) = ring (pos d ∷ pos q ∷ S ∷ []) ((num (pos 2) ⊗ var 0) ⊗ (var 1 ⊗ var 2)) (num (pos 0) ⊖ ((num (pos 0) ⊖ (num (pos 2) ⊗ (var 1 ⊗ var 0))) ⊗ var 2)) refl in
    let right : pos (2 * d) *ℤ (pos d *ℤ G) ≡ pos 2 *ℤ (square (pos d) *ℤ G) = ring (pos d ∷ G ∷ []) ((num (pos 2) ⊗ var 0) ⊗ (var 0 ⊗ var 1)) (num (pos 2) ⊗ ((var 0 ⊗ var 0) ⊗ var 1)) refl in
    let mix : (pos q *ℤ S) ≤ℤ (pos d *ℤ G) = cancel_le (2 * d) (pos q *ℤ S) (pos d *ℤ G) (omega (arith, dp)) (omega (arith, ints, apart, sign, h, left, right)) in
    let one = mul-mono (square (pos a)) (square (pos q) *ℤ F) (square (pos d) *ℤ G) (omega (arith, ints)) h in
    let factor = pos 2 *ℤ (pos a *ℤ pos b *ℤ pos q) in
    let two = mul-mono factor (pos q *ℤ S) (pos d *ℤ G) (omega (arith, ints)) mix in
    let whole : square (pos q) *ℤ T ≡ ((square (pos a) *ℤ (square (pos q) *ℤ F)) +ℤ (square (pos q) *ℤ (square (pos b) *ℤ G))) +ℤ (factor *ℤ (pos q *ℤ S)) =
    ap (λ z. square (pos q) *ℤ z) inside ∙ ring (pos a ∷ pos b ∷ pos q ∷ F ∷ G ∷ S ∷ []) ((var 2 ⊗ var 2) ⊗ ((((var 0 ⊗ var 0) ⊗ var 3) ⊕ ((var 1 ⊗ var 1) ⊗ var 4)) ⊕ ((num (pos 2) ⊗ (var 0 ⊗ var 1)) ⊗ var 5)))
    ((((var 0 ⊗ var 0) ⊗ ((var 2 ⊗ var 2) ⊗ var 3)) ⊕ ((var 2 ⊗ var 2) ⊗ ((var 1 ⊗ var 1) ⊗ var 4))) ⊕ ((num (pos 2) ⊗ (var 0 ⊗ var 1 ⊗ var 2)) ⊗ (var 2 ⊗ var 5))) refl in
    let bound : square (pos (a * d + b * q)) *ℤ G ≡ ((square (pos a) *ℤ (square (pos d) *ℤ G)) +ℤ (square (pos q) *ℤ (square (pos b) *ℤ G))) +ℤ (factor *ℤ (pos d *ℤ G)) =
    ring (pos a ∷ pos b ∷ pos q ∷ pos d ∷ G ∷ []) ((((var 0 ⊗ var 3) ⊕ (var 1 ⊗ var 2)) ⊗ ((var 0 ⊗ var 3) ⊕ (var 1 ⊗ var 2))) ⊗ var 4)
    ((((var 0 ⊗ var 0) ⊗ ((var 3 ⊗ var 3) ⊗ var 4)) ⊕ ((var 2 ⊗ var 2) ⊗ ((var 1 ⊗ var 1) ⊗ var 4))) ⊕ ((num (pos 2) ⊗ (var 0 ⊗ var 1 ⊗ var 2)) ⊗ (var 3 ⊗ var 4))) refl in
    omega (arith, ints, whole, bound, one, two)

-- the numbers of the crossing
pub record Crosses (n : ℕ) (c : Constraint) (d q : ℕ) (X Y : ℕ → ℤ) : Type 0 where
  pub a : ℕ
  pub b : ℕ
  pub is : IsCrossing n c a b d q X Y

crosses : (n : ℕ) (c : Constraint) (d q : ℕ) (X Y : ℕ → ℤ) → dot n c.form X <ℤ (c.least *ℤ pos d) → (c.least *ℤ pos q) ≤ℤ dot n c.form Y → Crosses n c d q X Y
crosses n c d q X Y under over =
    let low : pos 0 ≤ℤ (dot n c.form Y -ℤ (c.least *ℤ pos q)) = omega (arith, ints, over) in
    let high : pos 0 ≤ℤ ((c.least *ℤ pos d) -ℤ dot n c.form X) = omega (arith, ints, under) in
    let k = nonneg_is (dot n c.form Y -ℤ (c.least *ℤ pos q)) low in
    let l = nonneg_is ((c.least *ℤ pos d) -ℤ dot n c.form X) high in
    record { a = k.0; b = l.0; is = record { over = omega (arith, ints, k.1); under = omega (arith, ints, l.1); some = omega (arith, ints, l.1, under) } }

fewer : (n : ℕ) (even kept : List Constraint) (c : Constraint) (d : ℕ) (X : ℕ → ℤ) → FitsIn n even (c ∷ kept) d X → FitsIn n even kept d X
fewer n even kept c d X f = record { positive = f.positive; even_all = f.even_all; kept_all = f.kept_all.1 }

-- a bound carried over a point between
over_between : (t r e : ℕ) (F T G : ℤ) → 0 < t → (square (pos t) *ℤ F) ≤ℤ (square (pos e) *ℤ T) → (square (pos r) *ℤ T) ≤ℤ (square (pos t) *ℤ G) → (square (pos r) *ℤ F) ≤ℤ (square (pos e) *ℤ G)
over_between t r e F T G positive h k =
    let one = mul-mono (square (pos r)) (square (pos t) *ℤ F) (square (pos e) *ℤ T) (omega (arith, ints)) h in
    let two = mul-mono (square (pos e)) (square (pos r) *ℤ T) (square (pos t) *ℤ G) (omega (arith, ints)) k in
    let a : pos (t * t) *ℤ (square (pos r) *ℤ F) ≡ square (pos r) *ℤ (square (pos t) *ℤ F) = ring (pos t ∷ pos r ∷ F ∷ []) ((var 0 ⊗ var 0) ⊗ ((var 1 ⊗ var 1) ⊗ var 2)) ((var 1 ⊗ var 1) ⊗ ((var 0 ⊗ var 0) ⊗ var 2)) refl in
    let b : square (pos r) *ℤ (square (pos e) *ℤ T) ≡ square (pos e) *ℤ (square (pos r) *ℤ T) = ring (pos r ∷ pos e ∷ T ∷ []) ((var 0 ⊗ var 0) ⊗ ((var 1 ⊗ var 1) ⊗ var 2)) ((var 1 ⊗ var 1) ⊗ ((var 0 ⊗ var 0) ⊗ var 2)) refl in
    let c : pos (t * t) *ℤ (square (pos e) *ℤ G) ≡ square (pos e) *ℤ (square (pos t) *ℤ G) = ring (pos t ∷ pos e ∷ G ∷ []) ((var 0 ⊗ var 0) ⊗ ((var 1 ⊗ var 1) ⊗ var 2)) ((var 1 ⊗ var 1) ⊗ ((var 0 ⊗ var 0) ⊗ var 2)) refl in
    cancel_le (t * t) (square (pos r) *ℤ F) (square (pos e) *ℤ G) (nat_mul_positive t t positive positive) (omega (arith, ints, one, two, a, b, c))

-- the best without the constraint breaks it: then the best with it taken as an equality is best
best_crossed : (items : List Item) (even kept : List Constraint) (c : Constraint) → (one : HasBest items even kept) → dot (length items) c.form one.point <ℤ (c.least *ℤ pos one.den) → HasBest items (c ∷ even) kept → HasBest items even (c ∷ kept)
best_crossed items even kept c one under two =
    let n = length items in
    record {
      den = two.den;
      point = two.point;
      fits = record { positive = two.fits.positive; even_all = two.fits.even_all.1; kept_all = (omega (arith, ints, two.fits.even_all.0), two.fits.kept_all) };
      best = λ r Z there.
          let at = crosses n c one.den r one.point Z under there.kept_all.0 in
          let rest = fewer n even kept c r Z there in
          let fits = crossing_fits n even kept c at.a at.b one.den r one.point Z one.fits rest at.is in
          over_between (at.a * one.den + at.b * r) r two.den (squared_displacement items two.den two.point) (squared_displacement items (at.a * one.den + at.b * r) (between at.a at.b one.point Z)) (squared_displacement items r Z)
          fits.positive (two.best (at.a * one.den + at.b * r) (between at.a at.b one.point Z) fits)
          (between_nearer items at.a at.b one.den r one.point Z one.fits.positive there.positive (one.best r Z rest));
    }

pub best_of : (items : List Item) → ((i : ℕ) → i < length items → (1 ≤ (item_at items i).weight) × ((item_at items i).weight ≤ 4)) → (kept even : List Constraint) (q : ℕ) (P : ℕ → ℤ) → FitsIn (length items) even kept q P → HasBest items even kept
best_of items small [] even q P f = best_even items small even q P f
best_of items small (c ∷ cs) even q P f =
    let n = length items in
    let one = best_of items small cs even q P (fewer n even cs c q P f) in
    by_lt_z {P = HasBest items even (c ∷ cs)} (dot n c.form one.point) (c.least *ℤ pos one.den)
    (λ under. let at = crosses n c one.den q one.point P under f.kept_all.0 in
    best_crossed items even cs c one under (best_of items small cs (c ∷ even) (at.a * one.den + at.b * q) (between at.a at.b one.point P) (crossing_fits n even cs c at.a at.b one.den q one.point P one.fits (fewer n even cs c q P f) at.is)))
    (λ kept. record {
      den = one.den;
      point = one.point;
      fits = record { positive = one.fits.positive; even_all = one.fits.even_all; kept_all = (kept, one.fits.kept_all) };
      best = λ r Y there. one.best r Y (fewer n even cs c r Y there);
    })
