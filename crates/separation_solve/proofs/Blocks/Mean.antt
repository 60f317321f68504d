-- The weighted mean of a block.
use Rattle.std.proofs.Common.{◌≡◌, ℕ, suc, ◌+◌, ◌*◌, ◌<◌, ◌≤◌, false, cond, ℤ, pos, negsuc, neg_ℤ, ◌+ℤ◌, ◌-ℤ◌, ◌*ℤ◌, ◌≤ℤ◌, ◌<ℤ◌, [], ◌∷◌, length, Some, None, is_some, slice_index, get_or, add-one, FitsSigned, arith, refl, ap, sym, subst, ◌∙◌}
use Rattle.std.proofs.lemmas.Int.{ints}
use mir.Syntax.{w128}
use Rattle.std.proofs.lemmas.List.{get_or_read}
use Rattle.std.proofs.lemmas.List.Elements.{All-get_or}
use Rattle.separation_solve.specs.declared.fraction.Fraction.{Fraction}
use Rattle.separation_solve.specs.declared.network.Network.{Network}
use Rattle.separation_solve.specs.declared.reach.Reach.{Reach}
use Rattle.plane_geom.specs.Point.{IsCoordinate}
use Rattle.separation_model.specs.Bundle.{int_at}
use Rattle.separation_solve.specs.Reduced.{IsReduced}
use Rattle.separation_solve.specs.Network.{IsSound, items_of, place_at}
use Rattle.separation_solve.specs.Reach.{IsBlock, IsReach}
use Rattle.separation_solve.specs.Block.{IsAim, ahead_of_want, block_moment, block_weight, is_member, member_offset, member_weight, offset_of}
use Rattle.separation_model.proofs.Arithmetic.Ring.{mul_comm, ring, var, num, minus, ◌⊕◌, ◌⊗◌, ◌⊖◌}
use Rattle.separation_model.proofs.Arithmetic.Order.{cancel_le, mul-mono, mul-less, cancel_less}
use Rattle.separation_model.proofs.Arithmetic.Sums.{part_of_sum}
use Rattle.separation_solve.proofs.Blocks.Members.{member_is, member_place, start_member, weight_sign}
use Rattle.separation_solve.proofs.Blocks.BlockForce.{block_short}

-- the weight of the first items of a block, and by how much they are pulled from a start at 0 to the right
pub record MeanSoFar (n : Network) (r : Reach) (items weight : ℕ) (moment : ℤ) : Type 0 where
  pub weighs : pos weight ≡ block_weight n r items
  pub wants : moment ≡ neg_ℤ (block_moment n r items)
  pub light : weight ≤ 4 * items
  pub low : (neg_ℤ (pos 6000000000) *ℤ pos weight) ≤ℤ moment
  pub high : moment ≤ℤ (pos 6000000000 *ℤ pos weight)

-- a weight times at most six million units
share_bound : (share : ℕ) (z : ℤ) → negsuc 5999999999 ≤ℤ z → z ≤ℤ pos 6000000000 →
    ((neg_ℤ (pos 6000000000) *ℤ pos share) ≤ℤ (pos share *ℤ z)) × ((pos share *ℤ z) ≤ℤ (pos 6000000000 *ℤ pos share))
share_bound share z low high =
    (omega (arith, ints, mul-mono (pos share) (negsuc 5999999999) z (omega (arith, ints)) low), omega (arith, ints, mul-mono (pos share) z (pos 6000000000) (omega (arith, ints)) high))

-- one more member
pub mean_member : (n : Network) (start : ℕ) (r : Reach) (items weight : ℕ) (moment off : ℤ) → IsSound n → IsReach n start r → items < items_of n → offset_of r items ≡ Some off →
    MeanSoFar n r items weight moment →
    MeanSoFar n r (suc items) (weight + slice_index n.weights.items items) (moment +ℤ (pos (slice_index n.weights.items items) *ℤ (int_at n.wants.items items -ℤ off)))
mean_member n start r items weight moment off sound reach h found so =
    let share = slice_index n.weights.items items in
    let want = int_at n.wants.items items in
    let is = member_is r items off found in
    let at = member_place n start r items reach is.0 in
    let u : member_weight n r items ≡ pos share = ap (λ b. cond b (pos share) (pos 0)) is.0 in
    let part : member_weight n r items *ℤ ahead_of_want n r items ≡ neg_ℤ (pos share *ℤ (want -ℤ off)) =
    ap (λ z. z *ℤ (member_offset r items -ℤ want)) u ∙ ap (λ o. pos share *ℤ (o -ℤ want)) is.1
    ∙ ring (pos share ∷ off ∷ want ∷ []) (var 0 ⊗ (var 1 ⊖ var 2)) (minus (var 0 ⊗ (var 2 ⊖ var 1))) refl in
    let coordinate = All-get_or IsCoordinate n.wants.items items (pos 0) h sound.frame.wants in
    let light = All-get_or (λ w. w ≤ 4) n.weights.items items 0 (omega (arith, sound.frame.weights)) sound.frame.light in
    let bound = share_bound share (want -ℤ off) (omega (arith, ints, coordinate.low, at.high, is.1)) (omega (arith, ints, coordinate.high, at.low, is.1)) in
    record {
      weighs = omega (arith, ints, so.weighs, u);
      wants = omega (arith, ints, so.wants, part);
      light = omega (arith, so.light, light);
      low = omega (arith, ints, so.low, bound.0);
      high = omega (arith, ints, so.high, bound.1);
    }

-- an item that was not reached
pub mean_other : (n : Network) (r : Reach) (items weight : ℕ) (moment : ℤ) → offset_of r items ≡ None → MeanSoFar n r items weight moment → MeanSoFar n r (suc items) weight moment
mean_other n r items weight moment none so =
    let out : is_member r items ≡ false = ap is_some none in
    let u : member_weight n r items ≡ pos 0 = ap (λ b. cond b (pos (slice_index n.weights.items items)) (pos 0)) out in
    let part : member_weight n r items *ℤ ahead_of_want n r items ≡ pos 0 *ℤ ahead_of_want n r items = ap (λ z. z *ℤ ahead_of_want n r items) u in
    record {
      weighs = omega (arith, ints, so.weighs, u);
      wants = omega (arith, ints, so.wants, part);
      light = omega (arith, so.light);
      low = so.low;
      high = so.high;
    }

-- the block has some weight
pub block_heavy : (n : Network) (start : ℕ) (r : Reach) (weight : ℕ) (moment : ℤ) → IsSound n → IsReach n start r → MeanSoFar n r (items_of n) weight moment → 0 < weight
block_heavy n start r weight moment sound reach so =
    let heavy = All-get_or (λ w. 1 ≤ w) n.weights.items start 0 (omega (arith, sound.frame.weights, reach.start_item)) sound.frame.heavy in
    let u : member_weight n r start ≡ pos (slice_index n.weights.items start) = ap (λ b. cond b (pos (slice_index n.weights.items start)) (pos 0)) (start_member n start r reach).0 in
    let signs : (i : ℕ) → i < items_of n → pos 0 ≤ℤ member_weight n r i = λ i h. weight_sign (is_member r i) (slice_index n.weights.items i) in
    omega (arith, ints, so.weighs, part_of_sum (items_of n) (member_weight n r) start reach.start_item signs, u, heavy)

bound_low : (weight : ℕ) (moment top : ℤ) (den : ℕ) → (neg_ℤ (pos 6000000000) *ℤ pos weight) ≤ℤ moment → (top *ℤ pos weight) ≡ (moment *ℤ pos den) →
    (pos weight *ℤ (neg_ℤ (pos 10000000000) *ℤ pos den)) ≤ℤ (pos weight *ℤ top)
bound_low weight moment top den low e =
    let f = mul-mono (pos den) (neg_ℤ (pos 6000000000) *ℤ pos weight) moment (omega (arith, ints)) low in
    omega (
      arith,
      ints,
      f,
      e,
      mul_comm top (pos weight),
      mul_comm moment (pos den),
      ring (pos den ∷ pos weight ∷ []) (var 0 ⊗ (minus (num (pos 6000000000)) ⊗ var 1)) (minus (num (pos 6000000000)) ⊗ (var 1 ⊗ var 0)) refl,
      ring (pos den ∷ pos weight ∷ []) (var 1 ⊗ (minus (num (pos 10000000000)) ⊗ var 0)) (minus (num (pos 10000000000)) ⊗ (var 1 ⊗ var 0)) refl,
    )

bound_high : (weight : ℕ) (moment top : ℤ) (den : ℕ) → moment ≤ℤ (pos 6000000000 *ℤ pos weight) → (top *ℤ pos weight) ≡ (moment *ℤ pos den) →
    (pos weight *ℤ top) ≤ℤ (pos weight *ℤ (pos 10000000000 *ℤ pos den))
bound_high weight moment top den high e =
    let f = mul-mono (pos den) moment (pos 6000000000 *ℤ pos weight) (omega (arith, ints)) high in
    omega (
      arith,
      ints,
      f,
      e,
      mul_comm top (pos weight),
      mul_comm moment (pos den),
      ring (pos den ∷ pos weight ∷ []) (var 0 ⊗ (num (pos 6000000000) ⊗ var 1)) (num (pos 6000000000) ⊗ (var 1 ⊗ var 0)) refl,
      ring (pos den ∷ pos weight ∷ []) (var 1 ⊗ (num (pos 10000000000) ⊗ var 0)) (num (pos 10000000000) ⊗ (var 1 ⊗ var 0)) refl,
    )

-- the mean is an aim
pub mean_aim : (n : Network) (start : ℕ) (r : Reach) (weight : ℕ) (moment : ℤ) (mean : Fraction) → IsSound n → IsBlock n start r → MeanSoFar n r (items_of n) weight moment →
    IsReduced mean.num mean.den → (mean.num *ℤ pos weight) ≡ (moment *ℤ pos mean.den) → mean.den ≤ weight → IsAim n start mean
mean_aim n start r weight moment mean sound block so reduced value den =
    let some = block_heavy n start r weight moment sound block.reach so in
    let place = place_at n.places.items start in
    let w = pos weight in
    let m = block_moment n r (items_of n) in
    let short : ((w *ℤ place.num) +ℤ (pos place.den *ℤ m)) <ℤ pos 0 = subst (λ z. ((z *ℤ place.num) +ℤ (pos place.den *ℤ m)) <ℤ pos 0) (sym so.weighs) (block_short n start r sound block) in
    let positive : pos 0 <ℤ pos mean.den = omega (arith, ints, reduced.positive) in
    let scaled : (pos mean.den *ℤ ((w *ℤ place.num) +ℤ (pos place.den *ℤ m))) <ℤ (pos mean.den *ℤ pos 0) = mul-less (pos mean.den) ((w *ℤ place.num) +ℤ (pos place.den *ℤ m)) (pos 0) positive short in
    let opened : pos mean.den *ℤ ((w *ℤ place.num) +ℤ (pos place.den *ℤ m)) ≡ (w *ℤ (place.num *ℤ pos mean.den)) +ℤ (pos place.den *ℤ (m *ℤ pos mean.den)) =
    ring (pos mean.den ∷ w ∷ place.num ∷ pos place.den ∷ m ∷ []) (var 0 ⊗ ((var 1 ⊗ var 2) ⊕ (var 3 ⊗ var 4))) ((var 1 ⊗ (var 2 ⊗ var 0)) ⊕ (var 3 ⊗ (var 4 ⊗ var 0))) refl in
    let there : m *ℤ pos mean.den ≡ neg_ℤ (mean.num *ℤ w) =
    ring (m ∷ pos mean.den ∷ []) (var 0 ⊗ var 1) (minus (minus (var 0) ⊗ var 1)) refl ∙ ap (λ z. neg_ℤ (z *ℤ pos mean.den)) (sym so.wants) ∙ ap neg_ℤ (sym value) in
    let product : pos place.den *ℤ (m *ℤ pos mean.den) ≡ neg_ℤ (w *ℤ (mean.num *ℤ pos place.den)) =
    ap (λ z. pos place.den *ℤ z) there ∙ ring (pos place.den ∷ mean.num ∷ w ∷ []) (var 0 ⊗ minus (var 1 ⊗ var 2)) (minus (var 2 ⊗ (var 1 ⊗ var 0))) refl in
    record {
      reduced = reduced;
      within = record {
        low = cancel_le weight (neg_ℤ (pos 10000000000) *ℤ pos mean.den) mean.num some (bound_low weight moment mean.num mean.den so.low value);
        high = cancel_le weight mean.num (pos 10000000000 *ℤ pos mean.den) some (bound_high weight moment mean.num mean.den so.high value);
      };
      den = omega (arith, den, so.light, sound.frame.few);
      ahead = cancel_less weight (place.num *ℤ pos mean.den) (mean.num *ℤ pos place.den) some (omega (arith, ints, scaled, opened, product));
    }

-- the want that is read
pub want_within : (n : Network) → IsSound n → (i : ℕ) (z : ℤ) → i < items_of n → z ≡ get_or n.wants.items i z → IsCoordinate z
want_within n sound i z h e = subst IsCoordinate (sym (get_or_read n.wants.items i z h e (pos 0))) (All-get_or IsCoordinate n.wants.items i (pos 0) h sound.frame.wants)

-- a weight that was read
pub share_light : (n : Network) → IsSound n → (i share : ℕ) → i < items_of n → share ≡ get_or n.weights.items i share → share ≤ 4
share_light n sound i share h e =
    let within : i < length n.weights.items = omega (arith, h, sound.frame.weights) in
    omega (arith, get_or_read n.weights.items i share within e 0, All-get_or (λ w. w ≤ 4) n.weights.items i 0 within sound.frame.light)

-- the offset of a member
pub record IsNear (off : ℤ) : Type 0 where
  pub low : negsuc 3999999999 ≤ℤ off
  pub high : off ≤ℤ pos 4000000000

pub offset_near : (n : Network) (start : ℕ) (r : Reach) (i : ℕ) (off : ℤ) → IsReach n start r → offset_of r i ≡ Some off → IsNear off
offset_near n start r i off reach e =
    let is = member_is r i off e in
    let at = member_place n start r i reach is.0 in
    record { low = omega (arith, ints, at.low, is.1); high = omega (arith, ints, at.high, is.1) }

-- the next member, as it was read
pub mean_step : (n : Network) (start : ℕ) (r : Reach) (i weight new_weight share : ℕ) (moment new_moment off want : ℤ) → IsSound n → IsReach n start r → i < items_of n → offset_of r i ≡ Some off →
    share ≡ get_or n.weights.items i share → want ≡ get_or n.wants.items i want → MeanSoFar n r i weight moment →
    new_weight ≡ weight + share → new_moment ≡ moment +ℤ (pos share *ℤ (want -ℤ off)) → MeanSoFar n r (i + 1) new_weight new_moment
mean_step n start r i weight new_weight share moment new_moment off want sound reach h found read_share read_want so is_weight is_moment =
    let share_is : share ≡ slice_index n.weights.items i = get_or_read n.weights.items i share (omega (arith, h, sound.frame.weights)) read_share 0 in
    let want_is : want ≡ int_at n.wants.items i = get_or_read n.wants.items i want h read_want (pos 0) in
    let next = mean_member n start r i weight moment off sound reach h found so in
    let top : new_weight ≡ weight + slice_index n.weights.items i = is_weight ∙ ap (λ s. weight + s) share_is in
    let bottom : new_moment ≡ moment +ℤ (pos (slice_index n.weights.items i) *ℤ (int_at n.wants.items i -ℤ off)) =
    is_moment ∙ ap (λ s. moment +ℤ (pos s *ℤ (want -ℤ off))) share_is ∙ ap (λ z. moment +ℤ (pos (slice_index n.weights.items i) *ℤ (z -ℤ off))) want_is in
    subst (λ k. MeanSoFar n r k new_weight new_moment) (sym (add-one i))
    (subst (λ k. MeanSoFar n r (suc i) k new_moment) (sym top) (subst (λ m. MeanSoFar n r (suc i) (weight + slice_index n.weights.items i) m) (sym bottom) next))

-- the sums fit
pub mean_fits : (n : Network) (r : Reach) (i weight : ℕ) (moment z : ℤ) → IsSound n → i ≤ items_of n → MeanSoFar n r i weight moment →
    negsuc 23999999999 ≤ℤ z → z ≤ℤ pos 24000000000 → FitsSigned w128 (moment +ℤ z)
mean_fits n r i weight moment z sound h so low high = omega (arith, ints, so.light, so.low, so.high, sound.frame.few, low, high)

pub moment_bound : (share : ℕ) (want off : ℤ) → share ≤ 4 → IsCoordinate want → IsNear off → (negsuc 23999999999 ≤ℤ (pos share *ℤ (want -ℤ off))) × ((pos share *ℤ (want -ℤ off)) ≤ℤ pos 24000000000)
moment_bound share want off light coordinate near =
    let bound = share_bound share (want -ℤ off) (omega (arith, ints, coordinate.low, near.high)) (omega (arith, ints, coordinate.high, near.low)) in
    (omega (arith, ints, bound.0, light), omega (arith, ints, bound.1, light))

-- at the mean the members are balanced
pub mean_balance : (n : Network) (r : Reach) (weight : ℕ) (moment : ℤ) (mean : Fraction) → MeanSoFar n r (items_of n) weight moment → (mean.num *ℤ pos weight) ≡ (moment *ℤ pos mean.den) →
    ((block_weight n r (items_of n) *ℤ mean.num) +ℤ (pos mean.den *ℤ block_moment n r (items_of n))) ≡ pos 0
mean_balance n r weight moment mean so value =
    let m = block_moment n r (items_of n) in
    let e : block_weight n r (items_of n) *ℤ mean.num ≡ moment *ℤ pos mean.den = ap (λ z. z *ℤ mean.num) (sym so.weighs) ∙ mul_comm (pos weight) mean.num ∙ value in
    let f : moment *ℤ pos mean.den ≡ neg_ℤ m *ℤ pos mean.den = ap (λ z. z *ℤ pos mean.den) so.wants in
    omega (arith, ints, e, f, ring (m ∷ pos mean.den ∷ []) (minus (var 0) ⊗ var 1) (minus (var 1 ⊗ var 0)) refl)
