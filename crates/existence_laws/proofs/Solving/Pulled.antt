-- At least positions no nodes are pulled away: a cut of the tight links would have a lower sum beside it.
use Rattle.std.proofs.Common.{◌≡◌, ℕ, suc, ◌+◌, ◌*◌, ◌<◌, ℤ, pos, ◌+ℤ◌, ◌-ℤ◌, ◌*ℤ◌, ◌≤ℤ◌, ◌<ℤ◌, [], ◌∷◌, length, refl, ap, subst, ◌∙◌, ⊎_elim, arith}
use Rattle.std.specs.Prelude.{unsigned_abs}
use Rattle.std.proofs.lemmas.Int.{ints}
use Rattle.std.proofs.lemmas.List.Elements.{All-from_get_or}
use Rattle.separation_model.specs.declared.bundle.Bundle.{Bundle}
use Rattle.separation_model.specs.Bundle.{IsBundle, asked, item_at, no_rule, rule_at}
use Rattle.separation_model.specs.Sum.{sum_below}
use Rattle.separation_model.specs.Least.{square, squared_displacement}
use Rattle.separation_model.proofs.Arithmetic.Ring.{ring, var, num, ◌⊗◌, ◌⊕◌, ◌⊖◌}
use Rattle.separation_model.proofs.Arithmetic.Order.{cancel_nonneg, is_zero_or, mul-mono, mul-nonneg, nat_mul_positive, square-nonneg}
use Rattle.separation_model.proofs.Arithmetic.Sums.{sum_below-same, sum_below-scale, sum_below-sign, sum_below-sub}
use Rattle.separation_model.proofs.Optimum.Duality.{displacement_along, force, step, step_square, work}
use Rattle.separation_model.proofs.Optimum.Positions.{MeetsOver, ends_within}
use Rattle.existence_laws.proofs.Solving.Flows.{IsCut}
use Rattle.existence_laws.proofs.Solving.Links.{Link, IsTight, IsTightLink, link, link_of_high, link_of_low, link_of_rule, link_count, at_item, at_wall, from, supply, supply_sum, to}

-- two nodes a gap apart, each moved by at most 1 over a finer denominator, are still the gap apart
moved_gap : (g a c da dc : ℤ) (d k : ℕ) → 0 < k → (g *ℤ pos d) ≤ℤ (c -ℤ a) → (c -ℤ a ≡ g *ℤ pos d → da ≤ℤ dc) → da ≤ℤ (dc +ℤ pos 1) →
    (g *ℤ pos (k * d)) ≤ℤ (((pos k *ℤ c) +ℤ dc) -ℤ ((pos k *ℤ a) +ℤ da))
moved_gap g a c da dc d k some kept tight near =
    let z = (c -ℤ a) -ℤ (g *ℤ pos d) in
    let e : (((pos k *ℤ c) +ℤ dc) -ℤ ((pos k *ℤ a) +ℤ da)) ≡ (g *ℤ pos (k * d)) +ℤ ((pos k *ℤ z) +ℤ (dc -ℤ da)) =
    ring (g ∷ a ∷ c ∷ da ∷ dc ∷ pos d ∷ pos k ∷ [])
    (((var 6 ⊗ var 2) ⊕ var 4) ⊖ ((var 6 ⊗ var 1) ⊕ var 3))
    ((var 0 ⊗ (var 6 ⊗ var 5)) ⊕ ((var 6 ⊗ ((var 2 ⊖ var 1) ⊖ (var 0 ⊗ var 5))) ⊕ (var 4 ⊖ var 3))) refl in
    let rest : pos 0 ≤ℤ ((pos k *ℤ z) +ℤ (dc -ℤ da)) =
    ⊎_elim
    (λ none. let h : da ≤ℤ dc = tight (omega (arith, ints, none)) in
    omega (arith, ints, h, ap (λ x. pos k *ℤ x) none))
    (λ more. let one : pos 1 ≤ℤ z = omega (arith, ints, more, kept) in
    omega (arith, ints, near, some, mul-mono (pos k) (pos 1) z (omega (arith, ints)) one))
    (is_zero_or z) in
    omega (arith, ints, e, rest)

module _ (b : Bundle) (gap : ℤ) (ok : IsBundle b) (d : ℕ) (X : ℕ → ℤ) (meets : MeetsOver b gap d X)
    (least : (q : ℕ) (Y : ℕ → ℤ) → MeetsOver b gap q Y → (square (pos q) *ℤ squared_displacement b.items.items d X) ≤ℤ (square (pos d) *ℤ squared_displacement b.items.items q Y))
    (cut : IsCut (suc (length b.items.items)) (link_count b gap) (from b gap) (to b gap) (IsTight b gap d X) (supply (length b.items.items) (force b.items.items d X))) where
  abbrev n : ℕ
  n = length b.items.items

  abbrev rules : ℕ
  rules = length b.rules.items

  -- how the cut moves, with the wall where it is
  abbrev y : ℕ → ℤ
  y x = cut.inside x -ℤ cut.inside n

  abbrev squares : ℤ
  squares = sum_below n (λ i. pos (item_at b.items.items i).weight *ℤ square (y i))

  abbrev k : ℕ
  k = suc (unsigned_abs squares)

  abbrev Y : ℕ → ℤ
  Y i = (pos k *ℤ X i) +ℤ y i

  near : (a c : ℕ) → y a ≤ℤ (y c +ℤ pos 1)
  near a c = omega (arith, ints, cut.is a, cut.is c)

  link_closed : (a : Link) (j : ℕ) → j < link_count b gap → link b gap j ≡ a → IsTightLink b gap d X a → cut.inside a.from ≤ℤ cut.inside a.to
  link_closed a j l e = subst (λ a. IsTightLink b gap d X a → cut.inside a.from ≤ℤ cut.inside a.to) e (cut.closed j l)

  moved_low : (i : ℕ) → i < n → ((item_at b.items.items i).lo *ℤ pos (k * d)) ≤ℤ Y i
  moved_low i l =
      let h = moved_gap (item_at b.items.items i).lo (pos 0) (X i) (y n) (y i) d k (omega arith) (omega (arith, ints, meets.low i l))
      (λ e. let c : cut.inside n ≤ℤ cut.inside i = link_closed _ (rules + i) (omega (arith, l)) (link_of_low b gap i l) (omega (arith, ints, e, at_item n X i l, at_wall n X)) in omega (arith, ints, c))
      (near n i) in
      omega (arith, ints, h)

  moved_high : (i : ℕ) → i < n → Y i ≤ℤ ((item_at b.items.items i).hi *ℤ pos (k * d))
  moved_high i l =
      let hi = (item_at b.items.items i).hi in
      let turn : (e : ℕ) → (pos 0 -ℤ hi) *ℤ pos e ≡ pos 0 -ℤ (hi *ℤ pos e) = λ e. ring (hi ∷ pos e ∷ []) ((num (pos 0) ⊖ var 0) ⊗ var 1) (num (pos 0) ⊖ (var 0 ⊗ var 1)) refl in
      let h = moved_gap (pos 0 -ℤ hi) (X i) (pos 0) (y i) (y n) d k (omega arith) (omega (arith, ints, turn d, meets.high i l))
      (λ e. let c : cut.inside i ≤ℤ cut.inside n = link_closed _ (rules + (n + i)) (omega (arith, l)) (link_of_high b gap i) (omega (arith, ints, e, at_item n X i l, at_wall n X)) in omega (arith, ints, c))
      (near i n) in
      omega (arith, ints, h, turn (k * d))

  moved_rule : (j : ℕ) → j < rules → (asked gap (rule_at b.rules.items j) *ℤ pos (k * d)) ≤ℤ (Y (rule_at b.rules.items j).right -ℤ Y (rule_at b.rules.items j).left)
  moved_rule j l =
      let r = rule_at b.rules.items j in
      let ends = ends_within b j no_rule ok l in
      moved_gap (asked gap r) (X r.left) (X r.right) (y r.left) (y r.right) d k (omega arith) (meets.rules j no_rule l)
      (λ e. let c : cut.inside r.left ≤ℤ cut.inside r.right = link_closed _ j (omega (arith, l)) (link_of_rule b gap j l) (omega (arith, ints, e, at_item n X r.left ends.0, at_item n X r.right ends.1)) in omega (arith, ints, c))
      (near r.left r.right)

  moved_meets : MeetsOver b gap (k * d) Y
  moved_meets = record {
    positive = nat_mul_positive k d (omega arith) meets.positive;
    low = moved_low;
    high = moved_high;
    rules = All-from_get_or (λ r. (asked gap r *ℤ pos (k * d)) ≤ℤ (Y r.right -ℤ Y r.left)) b.rules.items no_rule moved_rule;
  }

  abbrev f : ℕ → ℤ
  f = force b.items.items d X

  -- the way, and what it goes along the forces
  pushed : sum_below n (λ i. y i *ℤ f i) <ℤ pos 0
  pushed =
      let inside = cut.inside in
      omega (
        arith,
        ints,
        cut.lacks,
        supply_sum n f inside,
        sum_below-same n (λ i. y i *ℤ f i) (λ i. (inside i *ℤ f i) -ℤ (inside n *ℤ f i)) (λ i l. ring (inside i ∷ inside n ∷ f i ∷ []) ((var 0 ⊖ var 1) ⊗ var 2) ((var 0 ⊗ var 2) ⊖ (var 1 ⊗ var 2)) refl),
        sum_below-sub n (λ i. inside i *ℤ f i) (λ i. inside n *ℤ f i),
        sum_below-scale (inside n) n f,
      )

  step_is : (i : ℕ) → step d (k * d) X Y i ≡ pos d *ℤ y i
  step_is i = ring (pos d ∷ pos k ∷ X i ∷ y i ∷ []) ((var 0 ⊗ ((var 1 ⊗ var 2) ⊕ var 3)) ⊖ ((var 1 ⊗ var 0) ⊗ var 2)) (var 0 ⊗ var 3) refl

  -- what the sum of squares gains on the way
  gain : ℤ
  gain = squares +ℤ (pos k *ℤ sum_below n (λ i. y i *ℤ f i))

  gain_is : sum_below n (step_square b.items.items d (k * d) X Y) +ℤ (pos (k * d) *ℤ sum_below n (work b.items.items d (k * d) X Y)) ≡ square (pos d) *ℤ gain
  unfolding gain
  gain_is =
      let weights = λ (i : ℕ). pos (item_at b.items.items i).weight *ℤ square (y i) in
      let works = λ (i : ℕ). y i *ℤ f i in
      let one = sum_below-same n (step_square b.items.items d (k * d) X Y) (λ i. square (pos d) *ℤ weights i)
      (λ i l. ap (λ s. pos (item_at b.items.items i).weight *ℤ square s) (step_is i) ∙ ring (pos (item_at b.items.items i).weight ∷ pos d ∷ y i ∷ []) (var 0 ⊗ ((var 1 ⊗ var 2) ⊗ (var 1 ⊗ var 2))) ((var 1 ⊗ var 1) ⊗ (var 0 ⊗ (var 2 ⊗ var 2))) refl)
      ∙ sum_below-scale (square (pos d)) n weights in
      let two = sum_below-same n (work b.items.items d (k * d) X Y) (λ i. pos d *ℤ works i)
      (λ i l. ap (λ s. s *ℤ f i) (step_is i) ∙ ring (pos d ∷ y i ∷ f i ∷ []) ((var 0 ⊗ var 1) ⊗ var 2) (var 0 ⊗ (var 1 ⊗ var 2)) refl)
      ∙ sum_below-scale (pos d) n works in
      ap (λ s. s +ℤ (pos (k * d) *ℤ sum_below n (work b.items.items d (k * d) X Y))) one
      ∙ ap (λ s. (square (pos d) *ℤ squares) +ℤ (pos (k * d) *ℤ s)) two
      ∙ ring (pos d ∷ pos k ∷ squares ∷ sum_below n works ∷ []) (((var 0 ⊗ var 0) ⊗ var 2) ⊕ ((var 1 ⊗ var 0) ⊗ (var 0 ⊗ var 3))) ((var 0 ⊗ var 0) ⊗ (var 2 ⊕ (var 1 ⊗ var 3))) refl

  gain_low : gain <ℤ pos 0
  unfolding gain
  gain_low =
      let sign : pos 0 ≤ℤ squares = sum_below-sign n (λ i. pos (item_at b.items.items i).weight *ℤ square (y i)) (λ i l. mul-nonneg (pos (item_at b.items.items i).weight) (square (y i)) (omega (arith, ints)) (square-nonneg (y i))) in
      let total = sum_below n (λ i. y i *ℤ f i) in
      let most : total ≤ℤ (pos 0 -ℤ pos 1) = omega (arith, ints, pushed) in
      omega (arith, ints, sign, mul-mono (pos k) total (pos 0 -ℤ pos 1) (omega (arith, ints)) most)

  pub no_cut : ⊥
  no_cut =
      let h = least (k * d) Y moved_meets in
      let positive : 0 < d * d = nat_mul_positive d d meets.positive meets.positive in
      let g : pos 0 ≤ℤ (square (pos d) *ℤ gain) = omega (arith, ints, h, displacement_along b.items.items d (k * d) X Y, gain_is) in
      omega (arith, ints, gain_low, cancel_nonneg (d * d) gain positive g)
