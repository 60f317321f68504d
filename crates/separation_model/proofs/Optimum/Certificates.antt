-- Weak duality: multipliers show positions to be least.
use Rattle.std.proofs.Common.{◌≡◌, ◌≢◌, ℕ, suc, ◌*◌, ◌/◌, ◌<◌, ℤ, pos, ◌+ℤ◌, ◌-ℤ◌, ◌*ℤ◌, ◌≤ℤ◌, List, [], ◌∷◌, length, get_or, replicate, ap, sym, refl, ◌∙◌, ⊎_elim, arith}
use Rattle.std.proofs.lemmas.Int.{ints}
use Rattle.std.proofs.lemmas.List.Elements.{All-get_or}
use Rattle.separation_model.specs.declared.bundle.Bundle.{Bundle}
use Rattle.separation_model.specs.declared.bundle.Solution.{Solution}
use Rattle.separation_model.specs.Sum.{sum_below, product}
use Rattle.separation_model.specs.Bundle.{IsBundle, MeetsBundle, item_at, rule_at, int_at, asked, no_rule}
use Rattle.separation_model.specs.Least.{IsLeast, square, squared_displacement, over_product}
use Rattle.separation_model.specs.Certified.{IsCertified, from_left, from_right}
use Rattle.separation_model.proofs.Arithmetic.Ring.{ring, var, num, ◌⊕◌, ◌⊗◌, ◌⊖◌}
use Rattle.separation_model.proofs.Arithmetic.Order.{mul-nonneg, mul-mono, is_zero_or}
use Rattle.separation_model.proofs.Arithmetic.Sums.{sum_below-same, sum_below-add, sum_below-sign}
use Rattle.separation_model.proofs.Optimum.Duality.{step, force, work, displacement_least}
use Rattle.separation_model.proofs.Arithmetic.Exchange.{sum_pairs, net-exchange}
use Rattle.separation_model.proofs.Optimum.Positions.{MeetsOver, share, share_is, common_meets, ends_within, product-positive, scaled_tight}

-- along a tight rule the step does not close the gap
step_rule : (d q : ℕ) (a xl xr yl yr : ℤ) → (a *ℤ pos q) ≤ℤ (yr -ℤ yl) → xr -ℤ xl ≡ a *ℤ pos d →
    pos 0 ≤ℤ (((pos d *ℤ yr) -ℤ (pos q *ℤ xr)) -ℤ ((pos d *ℤ yl) -ℤ (pos q *ℤ xl)))
step_rule d q a xl xr yl yr h e =
    let f : ((pos d *ℤ yr) -ℤ (pos q *ℤ xr)) -ℤ ((pos d *ℤ yl) -ℤ (pos q *ℤ xl)) ≡ (pos d *ℤ (yr -ℤ yl)) -ℤ (pos q *ℤ (xr -ℤ xl)) =
    ring (pos d ∷ pos q ∷ xl ∷ xr ∷ yl ∷ yr ∷ []) (((var 0 ⊗ var 5) ⊖ (var 1 ⊗ var 3)) ⊖ ((var 0 ⊗ var 4) ⊖ (var 1 ⊗ var 2))) ((var 0 ⊗ (var 5 ⊖ var 4)) ⊖ (var 1 ⊗ (var 3 ⊖ var 2))) refl in
    let g : pos q *ℤ (xr -ℤ xl) ≡ pos d *ℤ (a *ℤ pos q) = ap (λ x. pos q *ℤ x) e ∙ ring (pos d ∷ pos q ∷ a ∷ []) (var 1 ⊗ (var 2 ⊗ var 0)) (var 0 ⊗ (var 2 ⊗ var 1)) refl in
    omega (arith, ints, f, g, mul-mono (pos d) (a *ℤ pos q) (yr -ℤ yl) (omega (arith, ints)) h)

-- from a lower limit it does not go left
step_low : (d q : ℕ) (lo x y : ℤ) → (lo *ℤ pos q) ≤ℤ y → x ≡ lo *ℤ pos d → pos 0 ≤ℤ ((pos d *ℤ y) -ℤ (pos q *ℤ x))
step_low d q lo x y h e =
    let g : pos q *ℤ x ≡ pos d *ℤ (lo *ℤ pos q) = ap (λ x. pos q *ℤ x) e ∙ ring (pos d ∷ pos q ∷ lo ∷ []) (var 1 ⊗ (var 2 ⊗ var 0)) (var 0 ⊗ (var 2 ⊗ var 1)) refl in
    omega (arith, ints, g, mul-mono (pos d) (lo *ℤ pos q) y (omega (arith, ints)) h)

-- from an upper limit it does not go right
step_high : (d q : ℕ) (hi x y : ℤ) → y ≤ℤ (hi *ℤ pos q) → x ≡ hi *ℤ pos d → ((pos d *ℤ y) -ℤ (pos q *ℤ x)) ≤ℤ pos 0
step_high d q hi x y h e =
    let g : pos q *ℤ x ≡ pos d *ℤ (hi *ℤ pos q) = ap (λ x. pos q *ℤ x) e ∙ ring (pos d ∷ pos q ∷ hi ∷ []) (var 1 ⊗ (var 2 ⊗ var 0)) (var 0 ⊗ (var 2 ⊗ var 1)) refl in
    omega (arith, ints, g, mul-mono (pos d) y (hi *ℤ pos q) (omega (arith, ints)) h)

-- a position at a limit, over the product
at_limit : (p limit : ℤ) (d t D : ℕ) → t * d ≡ D → p ≡ limit *ℤ pos d → p *ℤ pos t ≡ limit *ℤ pos D
at_limit p limit d t D e f =
    ap (λ x. x *ℤ pos t) f ∙ ring (limit ∷ pos d ∷ pos t ∷ []) ((var 0 ⊗ var 1) ⊗ var 2) (var 0 ⊗ (var 2 ⊗ var 1)) refl ∙ ap (λ x. limit *ℤ pos x) e

-- a product with a factor that is 0 unless the other is not negative
guarded : (m z : ℤ) → pos 0 ≤ℤ m → (m ≢ pos 0 → pos 0 ≤ℤ z) → pos 0 ≤ℤ (m *ℤ z)
guarded m z h k =
    ⊎_elim
    (λ e. let f : m *ℤ z ≡ pos 0 *ℤ z = ap (λ x. x *ℤ z) e in omega (arith, ints, f))
    (λ n. mul-nonneg m z h (k n))
    (is_zero_or m)

-- the terms of a sum over the rules
pairs-sign : {A : Type 0} (f : A → ℤ → ℤ) (d : A) (xs : List A) (zs : List ℤ) →
    ((j : ℕ) → j < length xs → pos 0 ≤ℤ f (get_or xs j d) (int_at zs j)) → pos 0 ≤ℤ sum_pairs f xs zs
pairs-sign f d [] zs h = omega (arith, ints)
pairs-sign f d (x ∷ xs) [] h = omega (arith, ints)
pairs-sign f d (x ∷ xs) (z ∷ zs) h =
    omega (arith, ints, h 0 (omega arith), pairs-sign f d xs zs (λ j l. h (suc j) (omega arith)))

-- the force over the product, by the multipliers
force_is : (w want p E : ℤ) (d t D : ℕ) → t * d ≡ D → pos 2 *ℤ w *ℤ (p -ℤ (pos d *ℤ want)) ≡ E →
    pos 2 *ℤ w *ℤ ((p *ℤ pos t) -ℤ (pos D *ℤ want)) ≡ pos t *ℤ E
force_is w want p E d t D e f =
    ap (λ x. pos 2 *ℤ w *ℤ ((p *ℤ pos t) -ℤ (pos x *ℤ want))) (sym e)
    ∙ ring (w ∷ want ∷ p ∷ pos d ∷ pos t ∷ []) (num (pos 2) ⊗ var 0 ⊗ ((var 2 ⊗ var 4) ⊖ ((var 4 ⊗ var 3) ⊗ var 1))) (var 4 ⊗ (num (pos 2) ⊗ var 0 ⊗ (var 2 ⊖ (var 3 ⊗ var 1)))) refl
    ∙ ap (λ x. pos t *ℤ x) f

work_is : (s f t g low high : ℤ) → f ≡ t *ℤ ((g +ℤ low) -ℤ high) →
    s *ℤ f ≡ ((s *ℤ t) *ℤ g) +ℤ ((low *ℤ (s *ℤ t)) +ℤ (high *ℤ (pos 0 -ℤ (s *ℤ t))))
work_is s f t g low high e =
    ap (λ x. s *ℤ x) e ∙ ring (s ∷ t ∷ g ∷ low ∷ high ∷ []) (var 0 ⊗ (var 1 ⊗ ((var 2 ⊕ var 3) ⊖ var 4)))
    (((var 0 ⊗ var 1) ⊗ var 2) ⊕ ((var 3 ⊗ (var 0 ⊗ var 1)) ⊕ (var 4 ⊗ (num (pos 0) ⊖ (var 0 ⊗ var 1))))) refl

module _ (b : Bundle) (s : Solution) (ok : IsBundle b) (cert : IsCertified b s) (q : ℕ) (other : List ℤ) (positive : 0 < q) (met : MeetsBundle b s.gap (replicate (length b.items.items) q) other) where
  abbrev den : List ℕ
  den = s.den.items

  abbrev place : List ℤ
  place = s.pos.items

  abbrev D : ℕ
  D = product den

  abbrev n : ℕ
  n = length b.items.items

  abbrev X : ℕ → ℤ
  X = over_product den place

  abbrev Y : ℕ → ℤ
  Y = int_at other

  -- the step to the other point, over the item's share
  abbrev way : ℕ → ℤ
  way i = step D q X Y i *ℤ pos (share den i)

  share_at : (i : ℕ) → i < n → share den i * get_or den i 0 ≡ D
  share_at i l = share_is den i cert.meets.positive (omega (arith, l, cert.meets.dens))

  there : MeetsOver b s.gap q Y
  there = common_meets b s.gap q other ok positive met

  scaled : (i : ℕ) → pos 0 ≤ℤ step D q X Y i → pos 0 ≤ℤ way i
  scaled i h = mul-nonneg (step D q X Y i) (pos (share den i)) h (omega (arith, ints))

  low_works : (i : ℕ) → i < n → pos 0 ≤ℤ (int_at s.low.items i *ℤ way i)
  low_works i l =
      guarded (int_at s.low.items i) (way i) (All-get_or (λ m. pos 0 ≤ℤ m) s.low.items i (pos 0) (omega (arith, l, cert.lows)) cert.low_sign)
      (λ some. scaled i (step_low D q (item_at b.items.items i).lo (X i) (Y i) (there.low i l) (at_limit (int_at place i) (item_at b.items.items i).lo (get_or den i 0) (share den i) D (share_at i l) ((cert.tight_limits i l).at_low some))))

  high_works : (i : ℕ) → i < n → pos 0 ≤ℤ (int_at s.high.items i *ℤ (pos 0 -ℤ way i))
  high_works i l =
      guarded (int_at s.high.items i) (pos 0 -ℤ way i) (All-get_or (λ m. pos 0 ≤ℤ m) s.high.items i (pos 0) (omega (arith, l, cert.highs)) cert.high_sign)
      (λ some. let back : step D q X Y i ≤ℤ pos 0 = step_high D q (item_at b.items.items i).hi (X i) (Y i) (there.high i l) (at_limit (int_at place i) (item_at b.items.items i).hi (get_or den i 0) (share den i) D (share_at i l) ((cert.tight_limits i l).at_high some)) in
      let less = pos 0 -ℤ step D q X Y i in
      let less_low : pos 0 ≤ℤ less = omega (arith, ints, back) in
      let e : less *ℤ pos (share den i) ≡ pos 0 -ℤ way i = ring (step D q X Y i ∷ pos (share den i) ∷ []) ((num (pos 0) ⊖ var 0) ⊗ var 1) (num (pos 0) ⊖ (var 0 ⊗ var 1)) refl in
      omega (arith, ints, e, mul-nonneg less (pos (share den i)) less_low (omega (arith, ints))))

  rule_works : (j : ℕ) → j < length b.rules.items → pos 0 ≤ℤ (int_at s.mult.items j *ℤ (way (rule_at b.rules.items j).right -ℤ way (rule_at b.rules.items j).left))
  rule_works j l =
      let r = rule_at b.rules.items j in
      let ends = ends_within b j no_rule ok l in
      guarded (int_at s.mult.items j) (way r.right -ℤ way r.left) (All-get_or (λ m. pos 0 ≤ℤ m) s.mult.items j (pos 0) (omega (arith, l, cert.mults)) cert.mult_sign)
      (λ some. let tight = cert.tight_rules j l some in
      let over = scaled_tight (asked s.gap r) (int_at place r.left) (int_at place r.right) (get_or den r.left 0) (get_or den r.right 0) (share den r.left) (share den r.right) D (product-positive den cert.meets.positive) (share_at r.left ends.0) (share_at r.right ends.1) tight.0 in
      let apart : pos 0 ≤ℤ (step D q X Y r.right -ℤ step D q X Y r.left) = step_rule D q (asked s.gap r) (X r.left) (X r.right) (Y r.left) (Y r.right) (there.rules j no_rule l) over in
      let one : pos (share den r.left) ≡ pos (share den r.right) = ap (λ d. pos (D / d)) tight.1 in
      let e : way r.right -ℤ way r.left ≡ (step D q X Y r.right -ℤ step D q X Y r.left) *ℤ pos (share den r.right) =
      ap (λ x. way r.right -ℤ (step D q X Y r.left *ℤ x)) one ∙ ring (step D q X Y r.left ∷ step D q X Y r.right ∷ pos (share den r.right) ∷ []) ((var 1 ⊗ var 2) ⊖ (var 0 ⊗ var 2)) ((var 1 ⊖ var 0) ⊗ var 2) refl in
      omega (arith, ints, e, mul-nonneg (step D q X Y r.right -ℤ step D q X Y r.left) (pos (share den r.right)) apart (omega (arith, ints))))

  works : pos 0 ≤ℤ sum_below n (work b.items.items D q X Y)
  works =
      let by_rules = λ (i : ℕ). way i *ℤ (from_left i b.rules.items s.mult.items -ℤ from_right i b.rules.items s.mult.items) in
      let by_limits = λ (i : ℕ). (int_at s.low.items i *ℤ way i) +ℤ (int_at s.high.items i *ℤ (pos 0 -ℤ way i)) in
      let each = sum_below-same n (work b.items.items D q X Y) (λ i. by_rules i +ℤ by_limits i)
      (λ i l. work_is (step D q X Y i) (force b.items.items D X i) (pos (share den i)) (from_left i b.rules.items s.mult.items -ℤ from_right i b.rules.items s.mult.items) (int_at s.low.items i) (int_at s.high.items i)
      (force_is (pos (item_at b.items.items i).weight) (item_at b.items.items i).want (int_at place i) _ (get_or den i 0) (share den i) D (share_at i l) (cert.balanced i l))) in
      let limits : pos 0 ≤ℤ sum_below n by_limits = sum_below-sign n by_limits (λ i l. omega (arith, ints, low_works i l, high_works i l)) in
      omega (
        arith,
        ints,
        each,
        limits,
        sum_below-add n by_rules by_limits,
        net-exchange (λ r. r.right) (λ r. r.left) n way b.rules.items s.mult.items (λ k d l. (ends_within b k d ok l).1) (λ k d l. (ends_within b k d ok l).0),
        pairs-sign (λ r m. m *ℤ (way r.right -ℤ way r.left)) no_rule b.rules.items s.mult.items rule_works,
      )

  pub no_lower : (square (pos q) *ℤ squared_displacement b.items.items D X) ≤ℤ (square (pos D) *ℤ squared_displacement b.items.items q Y)
  no_lower = displacement_least b.items.items D q X Y works

pub certified_least : (b : Bundle) (s : Solution) → IsBundle b → IsCertified b s → IsLeast b s.gap s.den.items s.pos.items
certified_least b s ok cert = record { meets = cert.meets; least = no_lower b s ok cert }
