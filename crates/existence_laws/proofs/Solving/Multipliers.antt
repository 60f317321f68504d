-- Multipliers over small denominators: forces that tight links balance are balanced by whole multipliers over the weights of classes.
use Rattle.std.proofs.Common.{◌≡◌, ℕ, suc, ◌*◌, ◌<◌, ◌≤◌, ℤ, pos, ◌-ℤ◌, ◌*ℤ◌, ◌≤ℤ◌, ◌<ℤ◌, [], ◌∷◌, length, refl, sym, ap, subst, ◌∙◌, ⊎_elim, arith}
use Rattle.std.specs.Prelude.{unsigned_abs}
use Rattle.std.proofs.lemmas.Int.{ints}
use Rattle.separation_model.specs.declared.bundle.Bundle.{Bundle}
use Rattle.separation_model.specs.Bundle.{IsBundle, item_at, no_item}
use Rattle.separation_model.specs.Sum.{sum_below}
use Rattle.separation_model.proofs.Arithmetic.Ring.{ring, var, num, ◌⊗◌, ◌⊖◌}
use Rattle.separation_model.proofs.Arithmetic.Order.{is_zero_or, mul-less, mul-nonneg}
use Rattle.separation_model.proofs.Arithmetic.Sums.{sum_below-same, sum_below-scale, sum_below-sign, sum_below-zero}
use Rattle.separation_model.proofs.Optimum.Duality.{force}
use Rattle.existence_laws.proofs.Deciding.Counting.{tally}
use Rattle.existence_laws.proofs.Solving.Flows.{IsCut, IsMet, flow_or_cut, net, net_exchange}
use Rattle.existence_laws.proofs.Solving.Links.{IsTight, link, link_count, at_item, at_node, at_wall, ends_in, from, supply, supply_even, supply_sum, tight_or, to}
use Rattle.existence_laws.proofs.Solving.Classes.{InClass, Divides, in_class_or, class_both, class_divides, class_most, class_positive, class_same, class_sign, class_weight, divides_or, quotient, quotient_is, tally_fails}

module _ (b : Bundle) (gap : ℤ) (ok : IsBundle b) (d : ℕ) (some : 0 < d) (X : ℕ → ℤ)
    (balance : IsMet (suc (length b.items.items)) (link_count b gap) (from b gap) (to b gap) (IsTight b gap d X) (supply (length b.items.items) (force b.items.items d X))) where
  abbrev n : ℕ
  n = length b.items.items

  abbrev P : ℕ → ℤ
  P = at_node n X

  abbrev weight : ℕ → ℕ
  weight i = (item_at b.items.items i).weight

  abbrev want : ℕ → ℤ
  want i = (item_at b.items.items i).want

  abbrev f : ℕ → ℤ
  f = force b.items.items d X

  -- the weight of the node's class
  abbrev W : ℕ → ℤ
  W = class_weight n d some P weight

  abbrev flow : ℕ → ℤ
  flow = balance.flow

  tight_in_class : (j : ℕ) → IsTight b gap d X j → InClass n d some P weight (from b gap j) (to b gap j)
  tight_in_class j t = ((link b gap j).gap, t ∙ ring ((link b gap j).gap ∷ pos d ∷ []) (var 0 ⊗ var 1) (var 1 ⊗ var 0) refl)

  -- what the forces do to nodes, weighted, they do to the tight links
  exchange : (y : ℕ → ℤ) → sum_below n (λ i. y i *ℤ f i) -ℤ (y n *ℤ sum_below n f) ≡ sum_below (link_count b gap) (λ j. flow j *ℤ (y (to b gap j) -ℤ y (from b gap j)))
  exchange y =
      sym (supply_sum n f y)
      ∙ sum_below-same (suc n) (λ x. y x *ℤ supply n f x) (λ x. y x *ℤ net (link_count b gap) (from b gap) (to b gap) flow x) (λ x l. ap (λ z. y x *ℤ z) (sym (balance.brings x l)))
      ∙ net_exchange (suc n) (link_count b gap) (from b gap) (to b gap) flow y (λ j l. (ends_in b gap ok j l).0) (λ j l. (ends_in b gap ok j l).1)

  -- over a link, where nodes that are alike have one number
  over_link : (y : ℕ → ℤ) → ((u x : ℕ) → InClass n d some P weight u x → y u ≡ y x) → (j : ℕ) → j < link_count b gap → flow j *ℤ (y (to b gap j) -ℤ y (from b gap j)) ≡ pos 0
  over_link y same j l =
      ⊎_elim
      (λ none. ap (λ z. z *ℤ (y (to b gap j) -ℤ y (from b gap j))) none ∙ omega (arith, ints))
      (λ more. let e = same (from b gap j) (to b gap j) (tight_in_class j (balance.is.opens j l more)) in
      let zero : y (to b gap j) -ℤ y (from b gap j) ≡ pos 0 = omega (arith, ints, e) in
      ap (λ z. flow j *ℤ z) zero ∙ omega (arith, ints))
      (is_zero_or (flow j))

  class_exchange : (y : ℕ → ℤ) → ((u x : ℕ) → InClass n d some P weight u x → y u ≡ y x) → sum_below n (λ i. y i *ℤ f i) ≡ y n *ℤ sum_below n f
  class_exchange y same = omega (arith, ints, exchange y, sum_below-zero (link_count b gap) (λ j. flow j *ℤ (y (to b gap j) -ℤ y (from b gap j))) (over_link y same))

  -- the items of a class without the wall balance each other
  class_even : (v : ℕ) → (Divides d (P v) → ⊥) → sum_below n (λ u. pos (tally (in_class_or n d some P weight v u)) *ℤ f u) ≡ pos 0
  class_even v apart =
      let y = λ (x : ℕ). pos (tally (in_class_or n d some P weight v x)) in
      let none : y n ≡ pos 0 = ap pos (tally_fails (in_class_or n d some P weight v n) (λ h. apart (
        pos 0 -ℤ h.0,
        omega (arith, ints, h.1, at_wall n X, ring (pos d ∷ h.0 ∷ []) (var 0 ⊗ (num (pos 0) ⊖ var 1)) (num (pos 0) ⊖ (var 0 ⊗ var 1)) refl),
      ))) in
      class_exchange y (class_both n d some P weight v) ∙ ap (λ z. z *ℤ sum_below n f) none ∙ omega (arith, ints)

  weight_divides : (v : ℕ) → Divides d (W v *ℤ P v)
  weight_divides v = elim (divides_or d (P v) some) as (λ _. Divides d (W v *ℤ P v)) [
    | yes h ↦ (W v *ℤ h.0, ap (λ z. W v *ℤ z) h.1 ∙ ring (W v ∷ pos d ∷ h.0 ∷ []) (var 0 ⊗ (var 1 ⊗ var 2)) (var 1 ⊗ (var 0 ⊗ var 2)) refl)
    | no apart ↦ class_divides n d some P weight v want
        (sum_below-same n (λ u. pos (tally (in_class_or n d some P weight v u)) *ℤ (pos 2 *ℤ pos (weight u) *ℤ (P u -ℤ (pos d *ℤ want u)))) (λ u. pos (tally (in_class_or n d some P weight v u)) *ℤ f u)
        (λ u l. ap (λ z. pos (tally (in_class_or n d some P weight v u)) *ℤ (pos 2 *ℤ pos (weight u) *ℤ (z -ℤ (pos d *ℤ want u)))) (at_item n X u l))
        ∙ class_even v apart)
  ]

  -- the position over the weight of its class
  pub den : ℕ → ℕ
  den v = unsigned_abs (W v)

  pub num_of : ℕ → ℤ
  num_of v = quotient d (W v *ℤ P v) (divides_or d (W v *ℤ P v) some)

  den_is : (v : ℕ) → pos (den v) ≡ W v
  unfolding den
  den_is v = omega (arith, ints, class_sign n d some P weight v)

  pub same_place : (v : ℕ) → v < n → pos d *ℤ num_of v ≡ pos (den v) *ℤ X v
  unfolding num_of
  same_place v l = sym (quotient_is d (W v *ℤ P v) (divides_or d (W v *ℤ P v) some) (weight_divides v)) ∙ ap (λ z. W v *ℤ z) (at_item n X v l) ∙ ap (λ z. z *ℤ X v) (sym (den_is v))

  pub den_positive : (v : ℕ) → v < n → 0 < den v
  den_positive v l = omega (arith, ints, den_is v, class_positive n d some P weight v l (ok.items v no_item l).weight_low)

  pub den_most : (v : ℕ) → den v ≤ 4 * n
  den_most v = omega (arith, ints, den_is v, class_most n d some P weight v (λ u l. (ok.items u no_item l).weight_high))

  pub one_den : (j : ℕ) → IsTight b gap d X j → den (from b gap j) ≡ den (to b gap j)
  unfolding den
  one_den j t = ap unsigned_abs (class_same n d some P weight (from b gap j) (to b gap j) (tight_in_class j t))

  -- the force over the item's denominator
  abbrev pub force_of : ℕ → ℤ
  force_of i = pos 2 *ℤ pos (weight i) *ℤ (num_of i -ℤ (pos (den i) *ℤ want i))

  force_scaled : (i : ℕ) → i < n → pos d *ℤ force_of i ≡ W i *ℤ f i
  force_scaled i l =
      ring (pos d ∷ pos (weight i) ∷ num_of i ∷ pos (den i) ∷ want i ∷ []) (var 0 ⊗ (num (pos 2) ⊗ var 1 ⊗ (var 2 ⊖ (var 3 ⊗ var 4)))) (num (pos 2) ⊗ var 1 ⊗ ((var 0 ⊗ var 2) ⊖ (var 0 ⊗ (var 3 ⊗ var 4)))) refl
      ∙ ap (λ z. pos 2 *ℤ pos (weight i) *ℤ (z -ℤ (pos d *ℤ (pos (den i) *ℤ want i)))) (same_place i l)
      ∙ ring (pos d ∷ pos (weight i) ∷ X i ∷ pos (den i) ∷ want i ∷ []) (num (pos 2) ⊗ var 1 ⊗ ((var 3 ⊗ var 2) ⊖ (var 0 ⊗ (var 3 ⊗ var 4)))) (var 3 ⊗ (num (pos 2) ⊗ var 1 ⊗ (var 2 ⊖ (var 0 ⊗ var 4)))) refl
      ∙ ap (λ z. z *ℤ f i) (den_is i)

  no_cut : IsCut (suc n) (link_count b gap) (from b gap) (to b gap) (IsTight b gap d X) (supply n force_of) → ⊥
  no_cut cut =
      let inside = cut.inside in
      let total = sum_below n f in
      let y = λ (x : ℕ). W x *ℤ inside x in
      let term : (j : ℕ) → j < link_count b gap → pos 0 ≤ℤ (flow j *ℤ (y (to b gap j) -ℤ y (from b gap j))) =
      λ j l. ⊎_elim
      (λ none. let e : flow j *ℤ (y (to b gap j) -ℤ y (from b gap j)) ≡ pos 0 = ap (λ z. z *ℤ (y (to b gap j) -ℤ y (from b gap j))) none ∙ omega (arith, ints) in omega (arith, ints, e))
      (λ more. let t = balance.is.opens j l more in
      let u = from b gap j in
      let x = to b gap j in
      let e : y x -ℤ y u ≡ W u *ℤ (inside x -ℤ inside u) = ap (λ z. (z *ℤ inside x) -ℤ y u) (sym (class_same n d some P weight u x (tight_in_class j t))) ∙ ring (W u ∷ inside x ∷ inside u ∷ []) ((var 0 ⊗ var 1) ⊖ (var 0 ⊗ var 2)) (var 0 ⊗ (var 1 ⊖ var 2)) refl in
      let up : pos 0 ≤ℤ (inside x -ℤ inside u) = omega (arith, ints, cut.closed j l t) in
      mul-nonneg (flow j) (y x -ℤ y u) (balance.is.sign j) (subst (λ z. pos 0 ≤ℤ z) (sym e) (mul-nonneg (W u) (inside x -ℤ inside u) (class_sign n d some P weight u) up)))
      (is_zero_or (flow j)) in
      let own = sum_below n (λ i. inside i *ℤ force_of i) in
      let all = sum_below n force_of in
      let own_scaled : pos d *ℤ own ≡ sum_below n (λ i. y i *ℤ f i) =
      sym (sum_below-scale (pos d) n (λ i. inside i *ℤ force_of i))
      ∙ sum_below-same n (λ i. pos d *ℤ (inside i *ℤ force_of i)) (λ i. y i *ℤ f i)
      (λ i l. ring (pos d ∷ inside i ∷ force_of i ∷ []) (var 0 ⊗ (var 1 ⊗ var 2)) (var 1 ⊗ (var 0 ⊗ var 2)) refl ∙ ap (λ z. inside i *ℤ z) (force_scaled i l) ∙ ring (W i ∷ inside i ∷ f i ∷ []) (var 1 ⊗ (var 0 ⊗ var 2)) ((var 0 ⊗ var 1) ⊗ var 2) refl) in
      let all_scaled : pos d *ℤ all ≡ W n *ℤ total =
      sym (sum_below-scale (pos d) n force_of) ∙ sum_below-same n (λ i. pos d *ℤ force_of i) (λ i. W i *ℤ f i) force_scaled ∙ class_exchange W (class_same n d some P weight) in
      let wall : pos d *ℤ (inside n *ℤ all) ≡ y n *ℤ total =
      ring (pos d ∷ inside n ∷ all ∷ []) (var 0 ⊗ (var 1 ⊗ var 2)) (var 1 ⊗ (var 0 ⊗ var 2)) refl ∙ ap (λ z. inside n *ℤ z) all_scaled ∙ ring (inside n ∷ W n ∷ total ∷ []) (var 0 ⊗ (var 1 ⊗ var 2)) ((var 1 ⊗ var 0) ⊗ var 2) refl in
      let apart : pos d *ℤ (own -ℤ (inside n *ℤ all)) ≡ (pos d *ℤ own) -ℤ (pos d *ℤ (inside n *ℤ all)) = ring (pos d ∷ own ∷ (inside n *ℤ all) ∷ []) (var 0 ⊗ (var 1 ⊖ var 2)) ((var 0 ⊗ var 1) ⊖ (var 0 ⊗ var 2)) refl in
      let low : (own -ℤ (inside n *ℤ all)) <ℤ pos 0 = omega (arith, ints, cut.lacks, supply_sum n force_of inside) in
      let less = mul-less (pos d) (own -ℤ (inside n *ℤ all)) (pos 0) (omega (arith, ints, some)) low in
      omega (arith, ints, exchange y, sum_below-sign (link_count b gap) (λ j. flow j *ℤ (y (to b gap j) -ℤ y (from b gap j))) term, own_scaled, wall, apart, less)

  pub balanced : IsMet (suc n) (link_count b gap) (from b gap) (to b gap) (IsTight b gap d X) (supply n force_of)
  balanced = ⊎_elim (λ met. met) (λ cut. absurd (no_cut cut))
      (flow_or_cut (suc n) (link_count b gap) (from b gap) (to b gap) (IsTight b gap d X) (tight_or b gap d X) (λ j l. (ends_in b gap ok j l).0) (λ j l. (ends_in b gap ok j l).1) (supply n force_of) (supply_even n force_of))
