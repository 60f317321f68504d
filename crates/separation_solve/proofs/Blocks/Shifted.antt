-- A block that has moved: the places keep all links, and the sum of squares has fallen.
use Rattle.std.proofs.Common.{◌≡◌, ℕ, zero, suc, ◌*◌, ◌/◌, ◌<◌, ◌≤◌, true, false, cond, ℤ, pos, negsuc, neg_ℤ, ◌+ℤ◌, ◌-ℤ◌, ◌*ℤ◌, ◌≤ℤ◌, ◌<ℤ◌, List, [], ◌∷◌, length, unsigned_abs, slice_index, Vec, inl, inr, ◌⊎◌, ⊎_elim, arith, refl, ap, sym, subst, ◌∙◌}
use Rattle.std.proofs.lemmas.Int.{ints}
use Rattle.std.proofs.lemmas.Bool.{cases_Bool, cases_eq}
use Rattle.std.proofs.Math.Nat.{mul-div_cancel}
use Rattle.separation_model.specs.Arena.{Arena}
use Rattle.separation_solve.specs.declared.fraction.Fraction.{Fraction}
use Rattle.separation_solve.specs.declared.network.Network.{Network}
use Rattle.separation_solve.specs.declared.reach.Reach.{Reach}
use Rattle.separation_model.specs.Sum.{sum_below}
use Rattle.separation_model.specs.Bundle.{int_at}
use Rattle.separation_model.specs.Least.{square}
use Rattle.separation_solve.specs.Reduced.{IsReduced}
use Rattle.separation_solve.specs.Fraction.{IsNotBeyond, most_weight}
use Rattle.separation_solve.specs.Network.{AreKept, IsFrame, IsKept, IsSound, IsSpot, items_of, link_at, place_at, no_place}
use Rattle.separation_solve.specs.Reach.{IsBlock}
use Rattle.separation_solve.specs.Block.{ChangesPlaces, IsAim, StaysKept, PlacesBlock, block_moment, block_weight, factorial, is_member, member_offset, objective, squared}
use Rattle.separation_model.proofs.Arithmetic.Ring.{ring, var, num, minus, ◌⊕◌, ◌⊗◌, ◌⊖◌}
use Rattle.separation_model.proofs.Arithmetic.Order.{cancel_le, mul-mono, nat_mul_positive, mul-nonneg, square-nonneg}
use Rattle.separation_model.proofs.Arithmetic.Sums.{sum_below-sign}
use Rattle.separation_solve.proofs.LightFractions.LowestTerms.{fraction_is, reduced_moved}
use Rattle.separation_solve.proofs.Blocks.Descent.{descent}
use Rattle.separation_solve.proofs.Blocks.Members.{member_place, weight_sign}
use Rattle.separation_solve.proofs.Blocks.BlockForce.{block_short, no_wall_member}

-- a number up to n divides the product of 1 to n
pub record IsPart (d n : ℕ) : Type 0 where
  pub times : ℕ
  pub whole : times * d ≡ n
  pub is : n / d ≡ times

part : (d n times : ℕ) → 0 < d → times * d ≡ n → IsPart d n
part d n times h e = record { times = times; whole = e; is = ap (λ k. k / d) (sym e) ∙ mul-div_cancel times h }

factorial_times : (d n : ℕ) → 0 < d → d ≤ n → (times : ℕ) × (times * d ≡ factorial n)
unfolding factorial
factorial_times d zero h k = absurd (omega arith)
factorial_times d (suc n) h k =
    ⊎_elim
    (λ (same : d ≡ suc n). (factorial n, rw same (omega arith)))
    (λ (other : d ≡ suc n → ⊥). let below = factorial_times d n h (omega arith) in (suc n * below.0, omega (arith, ap (λ z. suc n * z) below.1)))
    (cases_eq d (suc n))

pub factorial_part : (d n : ℕ) → 0 < d → d ≤ n → IsPart d (factorial n)
factorial_part d n h k = let f = factorial_times d n h k in part d (factorial n) f.0 h f.1

pub factorial_positive : (n : ℕ) → 0 < factorial n
unfolding factorial
factorial_positive zero = omega arith
factorial_positive (suc n) = omega (arith, factorial_positive n)

-- what is known of a move
pub record IsMove (n : Network) (start : ℕ) (r : Reach) (best place : Fraction) (new : List Fraction) : Type 0 where
  pub sound : IsSound n
  pub block : IsBlock n start r
  pub aim : IsAim n start place
  pub not_beyond : IsNotBeyond place best
  pub best_reduced : IsReduced best.num best.den
  pub mean : ((block_weight n r (items_of n) *ℤ best.num) +ℤ (pos best.den *ℤ block_moment n r (items_of n))) ≡ pos 0
  pub stays : (j : ℕ) → j < length n.links.items → StaysKept n r place (link_at n.links.items j)
  pub placed : PlacesBlock n.places.items (items_of n) r place new

-- a node has moved with the block, or stands where it stood
pub record HasMoved (n : Network) (start : ℕ) (r : Reach) (place : Fraction) (new : List Fraction) (i : ℕ) : Type 0 where
  pub member : is_member r i ≡ true
  pub old_num : (place_at n.places.items i).num ≡ (place_at n.places.items start).num +ℤ (member_offset r i *ℤ pos (place_at n.places.items start).den)
  pub old_den : (place_at n.places.items i).den ≡ (place_at n.places.items start).den
  pub new_num : (place_at new i).num ≡ place.num +ℤ (member_offset r i *ℤ pos place.den)
  pub new_den : (place_at new i).den ≡ place.den

pub record HasStayed (n : Network) (r : Reach) (new : List Fraction) (i : ℕ) : Type 0 where
  pub outside : is_member r i ≡ false
  pub same : place_at new i ≡ place_at n.places.items i

pub node_cases : (n : Network) (start : ℕ) (r : Reach) (best place : Fraction) (new : List Fraction) → IsMove n start r best place new → (i : ℕ) → i ≤ items_of n →
    HasMoved n start r place new i ⊎ HasStayed n r new i
node_cases n start r best place new move i h =
    ⊎_elim
    (λ (wall : i ≡ items_of n). inr (record { outside = ap (is_member r) wall ∙ no_wall_member n start r move.block; same = move.placed.beyond i (omega (arith, wall)) }))
    (λ (item : i ≡ items_of n → ⊥). ⊎_elim
    (λ m. let at = member_place n start r i move.block.reach m in
    let is = move.placed.members i (omega arith) m in
    inl (record {
      member = m;
      old_num = at.stands.num;
      old_den = at.stands.den;
      new_num = ap (λ (p : Fraction). p.num) is;
      new_den = ap (λ (p : Fraction). p.den) is;
    }))
    (λ o. inr (record { outside = o; same = move.placed.others i (omega arith) o }))
    (cases_Bool (is_member r i)))
    (cases_eq i (items_of n))

-- the network with the new places
abbrev pub with_places : Network → Vec Fraction Arena → Network
with_places n places = record n { places = places }

-- a fraction to the right of one that stands on the sheet, and so far from it, is not left of the sheet
moved_low : (top next off : ℤ) (den other : ℕ) → 0 < den → (top *ℤ pos other) <ℤ (next *ℤ pos den) → (neg_ℤ (pos 2000000000) *ℤ pos den) ≤ℤ (top +ℤ (off *ℤ pos den)) →
    (neg_ℤ (pos 2000000000) *ℤ pos other) ≤ℤ (next +ℤ (off *ℤ pos other))
moved_low top next off den other h ahead low =
    let f = mul-mono (pos other) (neg_ℤ (pos 2000000000) *ℤ pos den) (top +ℤ (off *ℤ pos den)) (omega (arith, ints)) low in
    cancel_le den (neg_ℤ (pos 2000000000) *ℤ pos other) (next +ℤ (off *ℤ pos other)) h
    (omega (
      arith,
      ints,
      f,
      ahead,
      ring (pos other ∷ pos den ∷ []) (var 0 ⊗ (minus (num (pos 2000000000)) ⊗ var 1)) (var 1 ⊗ (minus (num (pos 2000000000)) ⊗ var 0)) refl,
      ring (pos other ∷ top ∷ off ∷ pos den ∷ []) (var 0 ⊗ (var 1 ⊕ (var 2 ⊗ var 3))) ((var 1 ⊗ var 0) ⊕ (var 3 ⊗ (var 2 ⊗ var 0))) refl,
      ring (pos den ∷ next ∷ off ∷ pos other ∷ []) (var 0 ⊗ (var 1 ⊕ (var 2 ⊗ var 3))) ((var 1 ⊗ var 0) ⊕ (var 0 ⊗ (var 2 ⊗ var 3))) refl,
    ))

-- a place at which the upper limit stays kept is not right of the sheet
moved_high : (next gap off : ℤ) (other : ℕ) → negsuc 1999999999 ≤ℤ gap → (next *ℤ pos 1) ≤ℤ ((pos 0 -ℤ ((gap +ℤ off) *ℤ pos 1)) *ℤ pos other) → (next +ℤ (off *ℤ pos other)) ≤ℤ (pos 2000000000 *ℤ pos other)
moved_high next gap off other low stays =
    let f = mul-mono (pos other) (negsuc 1999999999) gap (omega (arith, ints)) low in
    omega (
      arith,
      ints,
      f,
      stays,
      ring (next ∷ []) (var 0 ⊗ num (pos 1)) (var 0) refl,
      ring (gap ∷ off ∷ pos other ∷ []) ((num (pos 0) ⊖ ((var 0 ⊕ var 1) ⊗ num (pos 1))) ⊗ var 2) (num (pos 0) ⊖ ((var 2 ⊗ var 0) ⊕ (var 1 ⊗ var 2))) refl,
      ring (pos other ∷ []) (var 0 ⊗ num (negsuc 1999999999)) (minus (num (pos 2000000000) ⊗ var 0)) refl,
    )

pub wall_is : (n : Network) → IsSound n → place_at n.places.items (items_of n) ≡ no_place
wall_is n sound = λ i. record { num = sound.kept.wall_num i; den = sound.kept.wall_den i }

-- a moved node stands on the sheet
moved_spot : (n : Network) (start : ℕ) (r : Reach) (best place : Fraction) (new : List Fraction) → IsMove n start r best place new → (i : ℕ) → i < items_of n → HasMoved n start r place new i → IsSpot (place_at new i)
moved_spot n start r best place new move i h moved =
    let from = place_at n.places.items start in
    let off = member_offset r i in
    let sound = move.sound in
    let spot = sound.kept.spots i (omega (arith, h, sound.frame.places)) in
    let first = sound.kept.spots start (omega (arith, move.block.reach.start_item, sound.frame.places)) in
    let old_low : (neg_ℤ (pos 2000000000) *ℤ pos from.den) ≤ℤ (from.num +ℤ (off *ℤ pos from.den)) =
    omega (arith, ints, spot.within.low, moved.old_num, ap (λ d. neg_ℤ (pos 2000000000) *ℤ pos d) moved.old_den) in
    let low = moved_low from.num place.num off from.den place.den first.reduced.positive move.aim.ahead old_low in
    let limit = sound.frame.limited i h in
    let link = link_at n.links.items limit.upper in
    let inside : is_member r link.from ≡ true = ap (is_member r) limit.upper_from ∙ moved.member in
    let outside : is_member r link.to ≡ false = ap (is_member r) limit.upper_to ∙ no_wall_member n start r move.block in
    let stays = move.stays limit.upper limit.upper_within (inside, outside) in
    let wall : place_at n.places.items link.to ≡ no_place = ap (place_at n.places.items) limit.upper_to ∙ wall_is n sound in
    let motive = λ (p : Fraction). (place.num *ℤ pos p.den) ≤ℤ ((p.num -ℤ ((link.gap +ℤ member_offset r link.from) *ℤ pos p.den)) *ℤ pos place.den) in
    let to_wall = subst motive wall stays in
    let by_item = subst (λ k. (place.num *ℤ pos 1) ≤ℤ ((pos 0 -ℤ ((link.gap +ℤ member_offset r k) *ℤ pos 1)) *ℤ pos place.den)) limit.upper_from to_wall in
    let high = moved_high place.num link.gap off place.den (sound.frame.links limit.upper limit.upper_within).gap.low by_item in
    subst IsSpot (sym (fraction_is (place_at new i) (place.num +ℤ (off *ℤ pos place.den)) place.den moved.new_num moved.new_den)) (record {
      reduced = reduced_moved place.num off place.den move.aim.reduced;
      light = move.aim.den;
      within = record { low = low; high = high };
    })

pub new_spots : (n : Network) (start : ℕ) (r : Reach) (best place : Fraction) (new : List Fraction) → IsMove n start r best place new → (i : ℕ) → i < length new → IsSpot (place_at new i)
new_spots n start r best place new move i h =
    let sound = move.sound in
    let within : i ≤ items_of n = omega (arith, h, move.placed.count, sound.frame.places) in
    ⊎_elim
    (λ (wall : i ≡ items_of n). subst IsSpot (sym (move.placed.beyond i (omega (arith, wall)))) (sound.kept.spots i (omega (arith, within, sound.frame.places))))
    (λ (item : i ≡ items_of n → ⊥). ⊎_elim
    (λ moved. moved_spot n start r best place new move i (omega arith) moved)
    (λ stayed. subst IsSpot (sym stayed.same) (sound.kept.spots i (omega (arith, within, sound.frame.places))))
    (node_cases n start r best place new move i within))
    (cases_eq i (items_of n))

-- a link between nodes that stand at these fractions
abbrev Kept : ℤ → ℤ → ℕ → ℤ → ℕ → Type 0
Kept gap a b c d = (gap *ℤ pos b *ℤ pos d) ≤ℤ ((c *ℤ pos b) -ℤ (a *ℤ pos d))

-- both nodes move
kept_both : (gap top next off on : ℤ) (den other : ℕ) → 0 < den → Kept gap (top +ℤ (off *ℤ pos den)) den (top +ℤ (on *ℤ pos den)) den → Kept gap (next +ℤ (off *ℤ pos other)) other (next +ℤ (on *ℤ pos other)) other
kept_both gap top next off on den other h kept =
    let d = pos den in
    let o = pos other in
    let e : (pos (den * den) *ℤ gap) ≤ℤ (pos (den * den) *ℤ (on -ℤ off)) = omega (
      arith,
      ints,
      kept,
      ring (gap ∷ d ∷ []) (var 0 ⊗ var 1 ⊗ var 1) ((var 1 ⊗ var 1) ⊗ var 0) refl,
      ring (top ∷ off ∷ on ∷ d ∷ []) (((var 0 ⊕ (var 2 ⊗ var 3)) ⊗ var 3) ⊖ ((var 0 ⊕ (var 1 ⊗ var 3)) ⊗ var 3)) ((var 3 ⊗ var 3) ⊗ (var 2 ⊖ var 1)) refl,
    ) in
    let f = cancel_le (den * den) gap (on -ℤ off) (nat_mul_positive den den h h) e in
    let g = mul-mono (pos (other * other)) gap (on -ℤ off) (omega (arith, ints)) f in
    omega (
      arith,
      ints,
      g,
      ring (gap ∷ o ∷ []) (var 0 ⊗ var 1 ⊗ var 1) ((var 1 ⊗ var 1) ⊗ var 0) refl,
      ring (next ∷ off ∷ on ∷ o ∷ []) (((var 0 ⊕ (var 2 ⊗ var 3)) ⊗ var 3) ⊖ ((var 0 ⊕ (var 1 ⊗ var 3)) ⊗ var 3)) ((var 3 ⊗ var 3) ⊗ (var 2 ⊖ var 1)) refl,
    )

-- the left node moves, and the link stays kept
kept_out : (gap next off c : ℤ) (other d : ℕ) → (next *ℤ pos d) ≤ℤ ((c -ℤ ((gap +ℤ off) *ℤ pos d)) *ℤ pos other) → Kept gap (next +ℤ (off *ℤ pos other)) other c d
kept_out gap next off c other d stays =
    omega (
      arith,
      ints,
      stays,
      ring (c ∷ gap ∷ off ∷ pos d ∷ pos other ∷ []) ((var 0 ⊖ ((var 1 ⊕ var 2) ⊗ var 3)) ⊗ var 4) ((var 0 ⊗ var 4) ⊖ ((var 1 ⊗ var 4 ⊗ var 3) ⊕ (var 2 ⊗ var 4 ⊗ var 3))) refl,
      ring (next ∷ off ∷ pos other ∷ pos d ∷ []) ((var 0 ⊕ (var 1 ⊗ var 2)) ⊗ var 3) ((var 0 ⊗ var 3) ⊕ (var 1 ⊗ var 2 ⊗ var 3)) refl,
    )

-- the right node moves on
kept_in : (gap a top next on : ℤ) (b den other : ℕ) → 0 < den → (top *ℤ pos other) <ℤ (next *ℤ pos den) → Kept gap a b (top +ℤ (on *ℤ pos den)) den → Kept gap a b (next +ℤ (on *ℤ pos other)) other
kept_in gap a top next on b den other h ahead kept =
    let f = mul-mono (pos other) (gap *ℤ pos b *ℤ pos den) (((top +ℤ (on *ℤ pos den)) *ℤ pos b) -ℤ (a *ℤ pos den)) (omega (arith, ints)) kept in
    let g = mul-mono (pos b) (top *ℤ pos other) (next *ℤ pos den) (omega (arith, ints)) (omega (arith, ints)) in
    cancel_le den (gap *ℤ pos b *ℤ pos other) (((next +ℤ (on *ℤ pos other)) *ℤ pos b) -ℤ (a *ℤ pos other)) h
    (omega (
      arith,
      ints,
      f,
      g,
      ring (pos other ∷ gap ∷ pos b ∷ pos den ∷ []) (var 0 ⊗ (var 1 ⊗ var 2 ⊗ var 3)) (var 3 ⊗ (var 1 ⊗ var 2 ⊗ var 0)) refl,
      ring (pos other ∷ top ∷ on ∷ pos den ∷ pos b ∷ a ∷ []) (var 0 ⊗ (((var 1 ⊕ (var 2 ⊗ var 3)) ⊗ var 4) ⊖ (var 5 ⊗ var 3))) ((var 4 ⊗ (var 1 ⊗ var 0)) ⊕ ((var 0 ⊗ var 2 ⊗ var 3 ⊗ var 4) ⊖ (var 0 ⊗ var 5 ⊗ var 3))) refl,
      ring (pos other ∷ next ∷ on ∷ pos den ∷ pos b ∷ a ∷ []) (var 3 ⊗ (((var 1 ⊕ (var 2 ⊗ var 0)) ⊗ var 4) ⊖ (var 5 ⊗ var 0))) ((var 4 ⊗ (var 1 ⊗ var 3)) ⊕ ((var 0 ⊗ var 2 ⊗ var 3 ⊗ var 4) ⊖ (var 0 ⊗ var 5 ⊗ var 3))) refl,
    ))

-- a kept link, by the fractions of its nodes
kept_at : (gap : ℤ) (p q : Fraction) (a c : ℤ) (b d : ℕ) → p.num ≡ a → p.den ≡ b → q.num ≡ c → q.den ≡ d → Kept gap a b c d → Kept gap p.num p.den q.num q.den
kept_at gap p q a c b d pn pd qn qd kept =
    subst (λ z. Kept gap z p.den q.num q.den) (sym pn) (subst (λ z. Kept gap a z q.num q.den) (sym pd) (subst (λ z. Kept gap a b z q.den) (sym qn) (subst (λ z. Kept gap a b c z) (sym qd) kept)))

kept_from : (gap : ℤ) (p q : Fraction) (a c : ℤ) (b d : ℕ) → p.num ≡ a → p.den ≡ b → q.num ≡ c → q.den ≡ d → Kept gap p.num p.den q.num q.den → Kept gap a b c d
kept_from gap p q a c b d pn pd qn qd kept =
    subst (λ z. Kept gap z b c d) pn (subst (λ z. Kept gap p.num z c d) pd (subst (λ z. Kept gap p.num p.den z d) qn (subst (λ z. Kept gap p.num p.den q.num z) qd kept)))

-- all links are kept
pub new_kept : (n : Network) (start : ℕ) (r : Reach) (best place : Fraction) (new : List Fraction) → IsMove n start r best place new → (j : ℕ) → j < length n.links.items → IsKept new (link_at n.links.items j)
new_kept n start r best place new move j h =
    let link = link_at n.links.items j in
    let first = place_at n.places.items start in
    let from = place_at n.places.items link.from in
    let to = place_at n.places.items link.to in
    let new_from = place_at new link.from in
    let new_to = place_at new link.to in
    let sound = move.sound in
    let ends = sound.frame.links j h in
    let kept = sound.kept.kept j h in
    let some = (sound.kept.spots start (omega (arith, move.block.reach.start_item, sound.frame.places))).reduced.positive in
    let off = member_offset r link.from in
    let on = member_offset r link.to in
    ⊎_elim
    (λ (a : HasMoved n start r place new link.from). ⊎_elim
    (λ (b : HasMoved n start r place new link.to).
    kept_at link.gap new_from new_to (place.num +ℤ (off *ℤ pos place.den)) (place.num +ℤ (on *ℤ pos place.den)) place.den place.den a.new_num a.new_den b.new_num b.new_den
    (kept_both link.gap first.num place.num off on first.den place.den some
    (kept_from link.gap from to (first.num +ℤ (off *ℤ pos first.den)) (first.num +ℤ (on *ℤ pos first.den)) first.den first.den a.old_num a.old_den b.old_num b.old_den kept)))
    (λ (b : HasStayed n r new link.to).
    kept_at link.gap new_from new_to (place.num +ℤ (off *ℤ pos place.den)) to.num place.den to.den a.new_num a.new_den (ap (λ (p : Fraction). p.num) b.same) (ap (λ (p : Fraction). p.den) b.same)
    (kept_out link.gap place.num off to.num place.den to.den (move.stays j h (a.member, b.outside))))
    (node_cases n start r best place new move link.to (omega (arith, ends.to))))
    (λ (a : HasStayed n r new link.from). ⊎_elim
    (λ (b : HasMoved n start r place new link.to).
    kept_at link.gap new_from new_to from.num (place.num +ℤ (on *ℤ pos place.den)) from.den place.den (ap (λ (p : Fraction). p.num) a.same) (ap (λ (p : Fraction). p.den) a.same) b.new_num b.new_den
    (kept_in link.gap from.num first.num place.num on from.den first.den place.den some move.aim.ahead
    (kept_from link.gap from to from.num (first.num +ℤ (on *ℤ pos first.den)) from.den first.den refl refl b.old_num b.old_den kept)))
    (λ (b : HasStayed n r new link.to).
    kept_at link.gap new_from new_to from.num to.num from.den to.den (ap (λ (p : Fraction). p.num) a.same) (ap (λ (p : Fraction). p.den) a.same) (ap (λ (p : Fraction). p.num) b.same) (ap (λ (p : Fraction). p.den) b.same) kept)
    (node_cases n start r best place new move link.to (omega (arith, ends.to))))
    (node_cases n start r best place new move link.from (omega (arith, ends.from)))

-- the place is at most the mean
within_mean : (w m top best : ℤ) (other den : ℕ) → pos 0 ≤ℤ w → 0 < den → (w *ℤ best) +ℤ (pos den *ℤ m) ≡ pos 0 → (top *ℤ pos den) ≤ℤ (best *ℤ pos other) → ((w *ℤ top) +ℤ (pos other *ℤ m)) ≤ℤ pos 0
within_mean w m top best other den sign h mean order =
    let f = mul-mono w (top *ℤ pos den) (best *ℤ pos other) sign order in
    let e : pos other *ℤ ((w *ℤ best) +ℤ (pos den *ℤ m)) ≡ pos other *ℤ pos 0 = ap (λ z. pos other *ℤ z) mean in
    cancel_le den ((w *ℤ top) +ℤ (pos other *ℤ m)) (pos 0) h
    (omega (
      arith,
      ints,
      f,
      e,
      ring (pos den ∷ w ∷ top ∷ pos other ∷ m ∷ []) (var 0 ⊗ ((var 1 ⊗ var 2) ⊕ (var 3 ⊗ var 4))) ((var 1 ⊗ (var 2 ⊗ var 0)) ⊕ (var 0 ⊗ var 3 ⊗ var 4)) refl,
      ring (pos other ∷ w ∷ best ∷ pos den ∷ m ∷ []) (var 0 ⊗ ((var 1 ⊗ var 2) ⊕ (var 3 ⊗ var 4))) ((var 1 ⊗ (var 2 ⊗ var 0)) ⊕ (var 3 ⊗ var 0 ⊗ var 4)) refl,
    ))

-- the sum of squares is not negative
pub objective_sign : (n : Network) → pos 0 ≤ℤ objective n
objective_sign n = sum_below-sign (items_of n) (λ i. squared (factorial most_weight) (slice_index n.weights.items i) (int_at n.wants.items i) (place_at n.places.items i))
    (λ i h. mul-nonneg (pos (slice_index n.weights.items i)) (square (pos (factorial most_weight / (place_at n.places.items i).den) *ℤ ((place_at n.places.items i).num -ℤ (pos (place_at n.places.items i).den *ℤ int_at n.wants.items i))))
    (omega (arith, ints)) (square-nonneg (pos (factorial most_weight / (place_at n.places.items i).den) *ℤ ((place_at n.places.items i).num -ℤ (pos (place_at n.places.items i).den *ℤ int_at n.wants.items i)))))

-- the sum of squares falls
pub objective_falls : (n : Network) (start : ℕ) (r : Reach) (best place : Fraction) (places : Vec Fraction Arena) → IsMove n start r best place places.items →
    objective (with_places n places) <ℤ objective n
objective_falls n start r best place places move =
    let items = items_of n in
    let from = place_at n.places.items start in
    let sound = move.sound in
    let new = places.items in
    let spot = sound.kept.spots start (omega (arith, move.block.reach.start_item, sound.frame.places)) in
    let old_part = factorial_part from.den most_weight spot.reduced.positive spot.light in
    let new_part = factorial_part place.den most_weight move.aim.reduced.positive move.aim.den in
    descent items (factorial most_weight) old_part.times new_part.times from.den place.den (is_member r) (slice_index n.weights.items) (int_at n.wants.items) (member_offset r) from.num place.num
    (λ i. (place_at n.places.items i).num) (λ i. (place_at new i).num) (λ i. (place_at n.places.items i).den) (λ i. (place_at new i).den)
    old_part.whole old_part.is new_part.whole new_part.is (factorial_positive most_weight)
    (record { at = λ i h m. let at = member_place n start r i move.block.reach m in (at.stands.num, at.stands.den) })
    (record { at = λ i h m. let is = move.placed.members i h m in (ap (λ (p : Fraction). p.num) is, ap (λ (p : Fraction). p.den) is) })
    (λ i h o. let is = move.placed.others i h o in (ap (λ (p : Fraction). p.num) is, ap (λ (p : Fraction). p.den) is))
    move.aim.ahead (block_short n start r sound move.block)
    (within_mean (block_weight n r items) (block_moment n r items) place.num best.num place.den best.den
    (sum_below-sign items (λ i. cond (is_member r i) (pos (slice_index n.weights.items i)) (pos 0)) (λ i h. weight_sign (is_member r i) (slice_index n.weights.items i)))
    move.best_reduced.positive move.mean move.not_beyond)

-- what a move leaves
pub record IsMoved (old new : Network) : Type 0 where
  pub frame : IsFrame new
  pub kept : AreKept new
  pub falls : unsigned_abs (objective new) < unsigned_abs (objective old)

moved_with : (n : Network) (start : ℕ) (r : Reach) (best place : Fraction) (places : Vec Fraction Arena) → IsMove n start r best place places.items → IsMoved n (with_places n places)
moved_with n start r best place places move =
    let frame = move.sound.frame in
    let kept = move.sound.kept in
    let wall = move.placed.beyond (items_of n) (omega arith) in
    record {
      frame = record {
        few = frame.few;
        weights = frame.weights;
        excess = frame.excess;
        places = move.placed.count ∙ frame.places;
        lists = frame.lists;
        flow = frame.flow;
        light = frame.light;
        heavy = frame.heavy;
        wants = frame.wants;
        links = frame.links;
        limited = frame.limited;
      };
      kept = record {
        spots = new_spots n start r best place places.items move;
        wall_num = ap (λ (p : Fraction). p.num) wall ∙ kept.wall_num;
        wall_den = ap (λ (p : Fraction). p.den) wall ∙ kept.wall_den;
        kept = new_kept n start r best place places.items move;
      };
      falls = omega (arith, ints, objective_falls n start r best place places move, objective_sign (with_places n places), objective_sign n);
    }

same_network : (n m : Network) → ChangesPlaces n m → m ≡ with_places n m.places
same_network n m changes = λ i. record {
  links = changes.links i;
  tight = changes.tight i;
  wants = changes.wants i;
  weights = changes.weights i;
  mirrored = changes.mirrored i;
  places = m.places;
  flow = changes.flow i;
  excess = changes.excess i;
}

pub moved : (n m : Network) (start : ℕ) (r : Reach) (best place : Fraction) → IsMove n start r best place m.places.items → ChangesPlaces n m → IsMoved n m
moved n m start r best place move changes = subst (IsMoved n) (sym (same_network n m changes)) (moved_with n start r best place m.places move)

-- the sum of squares depends on wants, weights and places alone
pub objective-same : (n m : Network) → n.wants ≡ m.wants → n.weights ≡ m.weights → n.places ≡ m.places → objective n ≡ objective m
objective-same n m wants weights places = λ i.
    sum_below (length (wants i).items) (λ k. squared (factorial most_weight) (slice_index (weights i).items k) (int_at (wants i).items k) (place_at (places i).items k))
