-- What pulls a block: no flow crosses its border, so its members' displacements alone.
use Rattle.std.proofs.Common.{◌≡◌, ◌≢◌, ℕ, suc, ◌<◌, true, false, cond, if◌then◌else◌, ℤ, pos, ◌+ℤ◌, ◌-ℤ◌, ◌*ℤ◌, ◌≤ℤ◌, ◌<ℤ◌, List, [], ◌∷◌, length, get_or, Option, Some, None, IsSome, ⊎_elim, inl, inr, slice_index, arith, refl, ap, sym, ◌∙◌}
use Rattle.std.proofs.lemmas.Int.{ints, by_lt_z}
use Rattle.std.proofs.lemmas.Bool.{cases_Bool, true≢false, false_from_ne_true}
use Rattle.std.proofs.lemmas.List.Elements.{All-from_get_or}
use Rattle.separation_solve.specs.declared.network.Network.{Network}
use Rattle.separation_solve.specs.declared.reach.Reach.{Reach}
use Rattle.separation_model.specs.Sum.{sum_below}
use Rattle.separation_model.specs.Bundle.{int_at}
use Rattle.separation_solve.specs.Network.{IsSound, force, items_of, link_at, net_flow, place_at, no_link}
use Rattle.separation_solve.specs.Reach.{IsBlock, IsLead, found_at}
use Rattle.separation_solve.specs.Block.{ahead_of_want, block_moment, block_weight, is_member, member_offset, member_weight}
use Rattle.separation_model.proofs.Arithmetic.Ring.{mul_comm, ring, var, num, ◌⊕◌, ◌⊗◌, ◌⊖◌}
use Rattle.separation_model.proofs.Arithmetic.Order.{is_zero_or}
use Rattle.separation_model.proofs.Arithmetic.Sums.{sum_below-same, sum_below-add, sum_below-sub, sum_below-scale, negative_sum}
use Rattle.separation_model.proofs.Arithmetic.Exchange.{sum_pairs, net-exchange}
use Rattle.separation_solve.proofs.Blocks.Members.{member_step, member_place, start_member, step_member}

-- 1 for a member, otherwise 0
abbrev pub mark : Reach → ℕ → ℤ
mark r i = if is_member r i then pos 1 else pos 0

mark_in : (r : Reach) (i : ℕ) → is_member r i ≡ true → mark r i ≡ pos 1
mark_in r i m = ap (λ b. cond b (pos 1) (pos 0)) m

mark_out : (r : Reach) (i : ℕ) → is_member r i ≡ false → mark r i ≡ pos 0
mark_out r i m = ap (λ b. cond b (pos 1) (pos 0)) m

difference : (z a : ℤ) → z *ℤ (a -ℤ a) ≡ pos 0
difference z a = ring (z ∷ a ∷ []) (var 0 ⊗ (var 1 ⊖ var 1)) (num (pos 0)) refl

-- a sum of which each part is 0
pub sum_pairs-zero : {A : Type 0} (f : A → ℤ → ℤ) (d : A) (xs : List A) (zs : List ℤ) →
    ((j : ℕ) → j < length xs → j < length zs → f (get_or xs j d) (get_or zs j (pos 0)) ≡ pos 0) → sum_pairs f xs zs ≡ pos 0
sum_pairs-zero f d [] zs e = refl
sum_pairs-zero f d (x ∷ xs) [] e = refl
sum_pairs-zero f d (x ∷ xs) (z ∷ zs) e =
    omega (arith, ints, e 0 (omega arith) (omega arith), sum_pairs-zero f d xs zs (λ j h k. e (suc j) (omega arith) (omega arith)))

-- marks of nodes of which both are members, or none
mark_same : (r : Reach) (a b : ℕ) → (is_member r a ≡ true → is_member r b ≡ true) → (is_member r b ≡ true → is_member r a ≡ true) → mark r b ≡ mark r a
mark_same r a b f g =
    ⊎_elim
    (λ m. mark_in r b (f m) ∙ sym (mark_in r a m))
    (λ o. mark_out r b (false_from_ne_true (is_member r b) (λ k. true≢false (sym (g k) ∙ o))) ∙ sym (mark_out r a o))
    (cases_Bool (is_member r a))

some_found : (r : Reach) (i : ℕ) (o : Option ℕ) → found_at r.found.items i ≡ o → IsSome o → is_member r i ≡ true
some_found r i None e h = absurd (true≢false (sym h))
some_found r i (Some k) e h = step_member r i k e

some_member : (r : Reach) (i : ℕ) → IsSome (found_at r.found.items i) → is_member r i ≡ true
some_member r i h = some_found r i (found_at r.found.items i) refl h

-- a lead from a member leads to a member
pub lead_stays : (n : Network) (start : ℕ) (r : Reach) → IsBlock n start r → (j a b : ℕ) → j < length n.links.items → IsLead n j a b → is_member r a ≡ true → is_member r b ≡ true
lead_stays n start r block j a b h lead m =
    let step = member_step r a m in
    some_member r b (block.closed j a b step.0 h lead step.1.found)

-- flow runs between two members or between two others
no_crossing : (n : Network) (start : ℕ) (r : Reach) → IsSound n → IsBlock n start r → (j : ℕ) → j < length n.links.items → int_at n.flow.items j ≢ pos 0 →
    mark r (link_at n.links.items j).to ≡ mark r (link_at n.links.items j).from
no_crossing n start r sound block j h some =
    let link = link_at n.links.items j in
    let within : j < length n.flow.items = omega (arith, h, sound.frame.flow) in
    let tight = sound.flow.tight j within some in
    let sign = sound.flow.sign j within in
    let more : pos 0 <ℤ int_at n.flow.items j = omega (arith, ints, sign, some) in
    mark_same r link.from link.to
    (λ m. lead_stays n start r block j link.from link.to h (inl (refl, refl, tight)) m)
    (λ m. lead_stays n start r block j link.to link.from h (inr (refl, refl, more)) m)

-- so the members' net flows are 0 together
net_zero : (n : Network) (start : ℕ) (r : Reach) → IsSound n → IsBlock n start r →
    sum_below (suc (items_of n)) (λ i. mark r i *ℤ net_flow n.links.items n.flow.items i) ≡ pos 0
net_zero n start r sound block =
    let links = n.links.items in
    let flow = n.flow.items in
    net-exchange (λ l. l.to) (λ l. l.from) (suc (items_of n)) (mark r) links flow
    (All-from_get_or (λ l. l.to < suc (items_of n)) links no_link (λ j h. omega (arith, (sound.frame.links j h).to)))
    (All-from_get_or (λ l. l.from < suc (items_of n)) links no_link (λ j h. omega (arith, (sound.frame.links j h).from)))
    ∙ sum_pairs-zero (λ l z. z *ℤ (mark r l.to -ℤ mark r l.from)) no_link links flow (λ j h k. ⊎_elim
    (λ none. ap (λ z. z *ℤ (mark r (link_at links j).to -ℤ mark r (link_at links j).from)) none ∙ omega (arith, ints))
    (λ some. let same = no_crossing n start r sound block j h some in
    ap (λ z. int_at flow j *ℤ (z -ℤ mark r (link_at links j).from)) same ∙ difference (int_at flow j) (mark r (link_at links j).from))
    (is_zero_or (int_at flow j)))

-- the wall is no member
pub no_wall_member : (n : Network) (start : ℕ) (r : Reach) → IsBlock n start r → is_member r (items_of n) ≡ false
no_wall_member n start r block = false_from_ne_true (is_member r (items_of n)) (λ m.
    let step = member_step r (items_of n) m in
    block.none_takes (items_of n) step.0 step.1.found (inl refl))

no_wall : (n : Network) (start : ℕ) (r : Reach) → IsBlock n start r → mark r (items_of n) ≡ pos 0
no_wall n start r block = mark_out r (items_of n) (no_wall_member n start r block)

-- a member's excess is not above 0
short_member : (n : Network) (start : ℕ) (r : Reach) → IsBlock n start r → (i : ℕ) → (mark r i *ℤ int_at n.excess.items i) ≤ℤ pos 0
short_member n start r block i =
    ⊎_elim
    (λ m. let step = member_step r i m in
    let e : mark r i *ℤ int_at n.excess.items i ≡ pos 1 *ℤ int_at n.excess.items i = ap (λ z. z *ℤ int_at n.excess.items i) (mark_in r i m) in
    by_lt_z (pos 0) (int_at n.excess.items i) (λ h. absurd (block.none_takes i step.0 step.1.found (inr h))) (λ h. omega (arith, ints, e)))
    (λ o. let e : mark r i *ℤ int_at n.excess.items i ≡ pos 0 *ℤ int_at n.excess.items i = ap (λ z. z *ℤ int_at n.excess.items i) (mark_out r i o) in omega (arith, ints, e))
    (cases_Bool (is_member r i))

-- the force on a member, by its offset
member_force : (n : Network) (start : ℕ) (r : Reach) → IsBlock n start r → (i : ℕ) →
    let place = place_at n.places.items start in
    mark r i *ℤ force n i ≡ pos 2 *ℤ ((place.num *ℤ member_weight n r i) +ℤ (pos place.den *ℤ (member_weight n r i *ℤ ahead_of_want n r i)))
member_force n start r block i =
    let place = place_at n.places.items start in
    let w = pos (slice_index n.weights.items i) in
    let t = int_at n.wants.items i in
    let off = member_offset r i in
    let formula = λ (u : ℤ). pos 2 *ℤ ((place.num *ℤ u) +ℤ (pos place.den *ℤ (u *ℤ (off -ℤ t)))) in
    ⊎_elim
    (λ m. let at = member_place n start r i block.reach m in
    let u : member_weight n r i ≡ w = ap (λ b. cond b w (pos 0)) m in
    ap (λ z. z *ℤ force n i) (mark_in r i m)
    ∙ ap (λ z. pos 1 *ℤ (pos 2 *ℤ w *ℤ (z -ℤ (pos (place_at n.places.items i).den *ℤ t)))) at.stands.num
    ∙ ap (λ z. pos 1 *ℤ (pos 2 *ℤ w *ℤ ((place.num +ℤ (off *ℤ pos place.den)) -ℤ (pos z *ℤ t)))) at.stands.den
    ∙ ring (w ∷ place.num ∷ off ∷ pos place.den ∷ t ∷ [])
    (num (pos 1) ⊗ (num (pos 2) ⊗ var 0 ⊗ ((var 1 ⊕ (var 2 ⊗ var 3)) ⊖ (var 3 ⊗ var 4))))
    (num (pos 2) ⊗ ((var 1 ⊗ var 0) ⊕ (var 3 ⊗ (var 0 ⊗ (var 2 ⊖ var 4))))) refl
    ∙ ap formula (sym u))
    (λ o. let u : member_weight n r i ≡ pos 0 = ap (λ b. cond b w (pos 0)) o in
    ap (λ z. z *ℤ force n i) (mark_out r i o)
    ∙ ring (force n i ∷ place.num ∷ off ∷ pos place.den ∷ t ∷ [])
    (num (pos 0) ⊗ var 0)
    (num (pos 2) ⊗ ((var 1 ⊗ num (pos 0)) ⊕ (var 3 ⊗ (num (pos 0) ⊗ (var 2 ⊖ var 4))))) refl
    ∙ ap formula (sym u))
    (cases_Bool (is_member r i))

-- at the place of the start, the members are left of their wants together
pub block_short : (n : Network) (start : ℕ) (r : Reach) → IsSound n → IsBlock n start r →
    ((block_weight n r (items_of n) *ℤ (place_at n.places.items start).num) +ℤ (pos (place_at n.places.items start).den *ℤ block_moment n r (items_of n))) <ℤ pos 0
block_short n start r sound block =
    let items = items_of n in
    let place = place_at n.places.items start in
    let excess = λ (i : ℕ). mark r i *ℤ int_at n.excess.items i in
    let forces = λ (i : ℕ). mark r i *ℤ force n i in
    let nets = λ (i : ℕ). mark r i *ℤ net_flow n.links.items n.flow.items i in
    let each : (i : ℕ) → i < items → excess i ≡ forces i -ℤ nets i = λ i h.
    ap (λ z. mark r i *ℤ z) (sound.flow.excess i (omega (arith, h, sound.frame.excess)))
    ∙ ring (mark r i ∷ force n i ∷ net_flow n.links.items n.flow.items i ∷ []) (var 0 ⊗ (var 1 ⊖ var 2)) ((var 0 ⊗ var 1) ⊖ (var 0 ⊗ var 2)) refl in
    let reach = block.reach in
    let first = mark_in r start (start_member n start r reach).0 in
    let start_below : excess start <ℤ pos 0 =
    let e : excess start ≡ pos 1 *ℤ int_at n.excess.items start = ap (λ z. z *ℤ int_at n.excess.items start) first in
    omega (arith, ints, e, reach.start_short) in
    let below : sum_below items excess <ℤ pos 0 = negative_sum items excess start reach.start_item (λ i h. short_member n start r block i) start_below in
    let none : sum_below items nets ≡ pos 0 =
    let wall : mark r items *ℤ net_flow n.links.items n.flow.items items ≡ pos 0 *ℤ net_flow n.links.items n.flow.items items = ap (λ z. z *ℤ net_flow n.links.items n.flow.items items) (no_wall n start r block) in
    omega (arith, ints, wall, net_zero n start r sound block) in
    let total : sum_below items excess ≡ sum_below items forces -ℤ sum_below items nets = sum_below-same items excess (λ i. forces i -ℤ nets i) each ∙ sum_below-sub items forces nets in
    let u = member_weight n r in
    let v = λ (i : ℕ). member_weight n r i *ℤ ahead_of_want n r i in
    let forced : sum_below items forces ≡ pos 2 *ℤ ((place.num *ℤ sum_below items u) +ℤ (pos place.den *ℤ sum_below items v)) =
    sum_below-same items forces (λ i. pos 2 *ℤ ((place.num *ℤ u i) +ℤ (pos place.den *ℤ v i))) (λ i h. member_force n start r block i)
    ∙ sum_below-scale (pos 2) items (λ i. (place.num *ℤ u i) +ℤ (pos place.den *ℤ v i))
    ∙ ap (λ z. pos 2 *ℤ z) (sum_below-add items (λ i. place.num *ℤ u i) (λ i. pos place.den *ℤ v i)
    ∙ ap (λ z. z +ℤ sum_below items (λ i. pos place.den *ℤ v i)) (sum_below-scale place.num items u)
    ∙ ap (λ z. (place.num *ℤ sum_below items u) +ℤ z) (sum_below-scale (pos place.den) items v)) in
    omega (arith, ints, below, none, total, forced, mul_comm (sum_below items u) place.num)
