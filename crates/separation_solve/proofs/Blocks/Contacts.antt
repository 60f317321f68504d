-- How far a block can move before a link to a node outside is tight.
use Rattle.std.proofs.Common.{◌≡◌, ℕ, ◌+◌, ◌<◌, ◌≤◌, true, false, ℤ, pos, negsuc, ◌+ℤ◌, ◌-ℤ◌, ◌*ℤ◌, ◌≤ℤ◌, ◌<ℤ◌, [], ◌∷◌, length, get_or, Some, inl, ⊎_elim, arith, refl, ap, sym, subst, ◌∙◌}
use Rattle.std.proofs.lemmas.Int.{ints, by_lt_z}
use Rattle.std.proofs.lemmas.Bool.{true≢false, cases_eq}
use Rattle.std.proofs.lemmas.List.{get_or_read}
use Rattle.separation_solve.specs.declared.fraction.Fraction.{Fraction}
use Rattle.separation_solve.specs.declared.network.Network.{Network}
use Rattle.separation_solve.specs.declared.network.Link.{Link}
use Rattle.separation_solve.specs.declared.reach.Reach.{Reach}
use Rattle.separation_solve.specs.Reduced.{IsReduced, IsWithin}
use Rattle.separation_solve.specs.Network.{IsLink, IsSound, IsSpot, IsTight, items_of, link_at, place_at, no_link, no_place}
use Rattle.separation_solve.specs.Reach.{IsBlock}
use Rattle.separation_solve.specs.Block.{IsAim, IsContact, LeadsOut, StaysKept, contact_of, is_member, member_offset, offset_of}
use Rattle.separation_solve.specs.Fraction.{IsLight, IsNotBeyond}
use Rattle.separation_model.proofs.Arithmetic.Ring.{mul_comm, ring, var, num, ◌⊕◌, ◌⊗◌, ◌⊖◌}
use Rattle.separation_model.proofs.Arithmetic.Order.{cancel_le, mul-mono, le_both}
use Rattle.separation_solve.proofs.LightFractions.LowestTerms.{apart, fraction_is, reduced_moved, same_den}
use Rattle.separation_solve.proofs.Blocks.Members.{member_is, member_place}
use Rattle.separation_solve.proofs.Blocks.BlockForce.{lead_stays}

-- fractions in order
pub not_beyond_trans : (p q r : Fraction) → IsReduced q.num q.den → IsNotBeyond p q → IsNotBeyond q r → IsNotBeyond p r
not_beyond_trans p q r reduced h k =
    let f = mul-mono (pos r.den) (p.num *ℤ pos q.den) (q.num *ℤ pos p.den) (omega (arith, ints)) h in
    let g = mul-mono (pos p.den) (q.num *ℤ pos r.den) (r.num *ℤ pos q.den) (omega (arith, ints)) k in
    cancel_le q.den (p.num *ℤ pos r.den) (r.num *ℤ pos p.den) reduced.positive
    (omega (
      arith,
      ints,
      f,
      g,
      ring (pos r.den ∷ p.num ∷ pos q.den ∷ []) (var 0 ⊗ (var 1 ⊗ var 2)) (var 2 ⊗ (var 1 ⊗ var 0)) refl,
      ring (pos r.den ∷ q.num ∷ pos p.den ∷ []) (var 0 ⊗ (var 1 ⊗ var 2)) (var 2 ⊗ (var 1 ⊗ var 0)) refl,
      ring (pos p.den ∷ r.num ∷ pos q.den ∷ []) (var 0 ⊗ (var 1 ⊗ var 2)) (var 2 ⊗ (var 1 ⊗ var 0)) refl,
    ))

-- a link that leads out is not tight
pub out_slack : (n : Network) (start : ℕ) (r : Reach) (j : ℕ) → IsSound n → IsBlock n start r → j < length n.links.items → LeadsOut r (link_at n.links.items j) →
    let link = link_at n.links.items j in
    let from = place_at n.places.items link.from in
    let to = place_at n.places.items link.to in
    (link.gap *ℤ pos from.den *ℤ pos to.den) <ℤ ((to.num *ℤ pos from.den) -ℤ (from.num *ℤ pos to.den))
out_slack n start r j sound block h out =
    let link = link_at n.links.items j in
    let from = place_at n.places.items link.from in
    let to = place_at n.places.items link.to in
    let ends = sound.frame.links j h in
    let from_spot = sound.kept.spots link.from (omega (arith, ends.from, sound.frame.places)) in
    let to_spot = sound.kept.spots link.to (omega (arith, ends.to, sound.frame.places)) in
    let kept = sound.kept.kept j h in
    by_lt_z (link.gap *ℤ pos from.den *ℤ pos to.den) ((to.num *ℤ pos from.den) -ℤ (from.num *ℤ pos to.den)) (λ less. less) (λ more.
    let e = le_both ((to.num *ℤ pos from.den) -ℤ (from.num *ℤ pos to.den)) (link.gap *ℤ pos from.den *ℤ pos to.den) more kept in
    let tight : IsTight n.places.items link = record {
      den = same_den from.num to.num link.gap from.den to.den from_spot.reduced to_spot.reduced e;
      apart = apart from.num to.num link.gap from.den to.den from_spot.reduced to_spot.reduced e;
    } in
    absurd (true≢false (sym (lead_stays n start r block j link.from link.to h (inl (refl, refl, tight)) out.0) ∙ out.1)))

contact_within : (top way : ℤ) (den : ℕ) → IsWithin 2000000000 top den → negsuc 7999999999 ≤ℤ way → way ≤ℤ pos 8000000000 → IsWithin 10000000000 (top -ℤ (way *ℤ pos den)) den
contact_within top way den within low high =
    let f = mul-mono (pos den) (negsuc 7999999999) way (omega (arith, ints)) low in
    let g = mul-mono (pos den) way (pos 8000000000) (omega (arith, ints)) high in
    record {
      low = omega (arith, ints, within.low, within.high, f, g, mul_comm way (pos den));
      high = omega (arith, ints, within.low, within.high, f, g, mul_comm way (pos den));
    }

-- a contact lies to the right of where the start stands
pub contact_aim : (n : Network) (start : ℕ) (r : Reach) (j : ℕ) → IsSound n → IsBlock n start r → j < length n.links.items → LeadsOut r (link_at n.links.items j) →
    IsAim n start (contact_of n r (link_at n.links.items j))
contact_aim n start r j sound block h out =
    let link = link_at n.links.items j in
    let from = place_at n.places.items link.from in
    let to = place_at n.places.items link.to in
    let place = place_at n.places.items start in
    let off = member_offset r link.from in
    let ends = sound.frame.links j h in
    let spot = sound.kept.spots link.to (omega (arith, ends.to, sound.frame.places)) in
    let at = member_place n start r link.from block.reach out.0 in
    let slack = out_slack n start r j sound block h out in
    let way = link.gap +ℤ off in
    let same : to.num +ℤ ((pos 0 -ℤ way) *ℤ pos to.den) ≡ to.num -ℤ (way *ℤ pos to.den) =
    ring (to.num ∷ way ∷ pos to.den ∷ []) (var 0 ⊕ ((num (pos 0) ⊖ var 1) ⊗ var 2)) (var 0 ⊖ (var 1 ⊗ var 2)) refl in
    let from_num : from.num *ℤ pos to.den ≡ (place.num *ℤ pos to.den) +ℤ (off *ℤ pos place.den *ℤ pos to.den) =
    ap (λ z. z *ℤ pos to.den) at.stands.num ∙ ring (place.num ∷ off ∷ pos place.den ∷ pos to.den ∷ []) ((var 0 ⊕ (var 1 ⊗ var 2)) ⊗ var 3) ((var 0 ⊗ var 3) ⊕ (var 1 ⊗ var 2 ⊗ var 3)) refl in
    let gap_den : link.gap *ℤ pos from.den *ℤ pos to.den ≡ link.gap *ℤ pos place.den *ℤ pos to.den = ap (λ d. link.gap *ℤ pos d *ℤ pos to.den) at.stands.den in
    let to_den : to.num *ℤ pos from.den ≡ to.num *ℤ pos place.den = ap (λ d. to.num *ℤ pos d) at.stands.den in
    let opened : (to.num -ℤ (way *ℤ pos to.den)) *ℤ pos place.den ≡ (to.num *ℤ pos place.den) -ℤ ((link.gap *ℤ pos place.den *ℤ pos to.den) +ℤ (off *ℤ pos place.den *ℤ pos to.den)) =
    ring (to.num ∷ link.gap ∷ off ∷ pos to.den ∷ pos place.den ∷ []) ((var 0 ⊖ ((var 1 ⊕ var 2) ⊗ var 3)) ⊗ var 4) ((var 0 ⊗ var 4) ⊖ ((var 1 ⊗ var 4 ⊗ var 3) ⊕ (var 2 ⊗ var 4 ⊗ var 3))) refl in
    record {
      reduced = subst (λ z. IsReduced z to.den) same (reduced_moved to.num (pos 0 -ℤ way) to.den spot.reduced);
      within = contact_within to.num way to.den spot.within (omega (arith, ints, ends.gap.low, at.low)) (omega (arith, ints, ends.gap.high, at.high));
      den = spot.light;
      ahead = omega (arith, ints, slack, from_num, gap_den, to_den, opened);
    }

-- what stays kept by a contact stays so by all that are not to its right
pub stays_nearer : (n : Network) (r : Reach) (link : Link) (place nearer : Fraction) → IsReduced place.num place.den → IsNotBeyond nearer place → StaysKept n r place link → StaysKept n r nearer link
stays_nearer n r link place nearer reduced h stays = λ out. not_beyond_trans nearer place (contact_of n r link) reduced h (stays out)

-- a link that was read
pub record IsRead (n : Network) (j : ℕ) (link : Link) : Type 0 where
  pub is : link ≡ link_at n.links.items j
  pub ends : IsLink (items_of n + 1) link

pub read_link : (n : Network) (j : ℕ) (link : Link) → IsSound n → j < length n.links.items → link ≡ get_or n.links.items j link → IsRead n j link
read_link n j link sound h e =
    let is = get_or_read n.links.items j link h e no_link in
    record { is = is; ends = subst (IsLink (items_of n + 1)) (sym is) (sound.frame.links j h) }

-- a place that was read
pub read_place : (n : Network) (i : ℕ) (place : Fraction) → IsSound n → i ≤ items_of n → place ≡ get_or n.places.items i place → (place ≡ place_at n.places.items i) × IsSpot place
read_place n i place sound h e =
    let within : i < length n.places.items = omega (arith, h, sound.frame.places) in
    let is = get_or_read n.places.items i place within e no_place in
    (is, subst IsSpot (sym is) (sound.kept.spots i within))

-- a spot is light
pub spot_light : (place : Fraction) → IsSpot place → IsLight place
spot_light place spot = record { den = spot.light; within = record { low = omega (arith, ints, spot.within.low); high = omega (arith, ints, spot.within.high) } }

abbrev at_link : Reach → Link → Fraction → Fraction
at_link r l t = record { num = t.num -ℤ ((l.gap +ℤ member_offset r l.from) *ℤ pos t.den); den = t.den }

-- the contact, as it was computed
pub contact_is : (n : Network) (start : ℕ) (r : Reach) (j : ℕ) (link : Link) (to place : Fraction) (off : ℤ) → IsSound n → IsBlock n start r → j < length n.links.items → IsRead n j link →
    offset_of r link.from ≡ Some off → is_member r link.to ≡ false → to ≡ place_at n.places.items link.to →
    place.num ≡ to.num +ℤ ((pos 0 -ℤ link.gap -ℤ off) *ℤ pos to.den) → place.den ≡ to.den → IsContact n start r (link_at n.links.items j) place
contact_is n start r j link to place off sound block h read found outside to_is top bottom =
    let is = member_is r link.from off found in
    let motive = λ (l : Link). (is_member r l.from ≡ true) × (is_member r l.to ≡ false) in
    let out : LeadsOut r (link_at n.links.items j) = subst motive read.is (is.0, outside) in
    let num_is : place.num ≡ to.num -ℤ ((link.gap +ℤ member_offset r link.from) *ℤ pos to.den) =
    top ∙ ring (to.num ∷ link.gap ∷ off ∷ pos to.den ∷ []) (var 0 ⊕ ((num (pos 0) ⊖ var 1 ⊖ var 2) ⊗ var 3)) (var 0 ⊖ ((var 1 ⊕ var 2) ⊗ var 3)) refl
    ∙ ap (λ o. to.num -ℤ ((link.gap +ℤ o) *ℤ pos to.den)) (sym is.1) in
    let here : place ≡ record { num = to.num -ℤ ((link.gap +ℤ member_offset r link.from) *ℤ pos to.den); den = to.den } = fraction_is place (to.num -ℤ ((link.gap +ℤ member_offset r link.from) *ℤ pos to.den)) to.den num_is bottom in
    let there : place ≡ contact_of n r link = here ∙ ap (at_link r link) to_is in
    let whole : place ≡ contact_of n r (link_at n.links.items j) = there ∙ ap (contact_of n r) read.is in
    record {
      out = out;
      is = whole;
      aim = subst (IsAim n start) (sym whole) (contact_aim n start r j sound block h out);
    }

-- the first contact of the first links, up to the best place
pub record FirstSoFar (n : Network) (start : ℕ) (r : Reach) (best place : Fraction) (links : ℕ) : Type 0 where
  pub aim : IsAim n start place
  pub not_beyond : IsNotBeyond place best
  pub stays : (j : ℕ) → j < links → StaysKept n r place (link_at n.links.items j)

-- a link that does not lead out
pub first_other : (n : Network) (start : ℕ) (r : Reach) (best place : Fraction) (j : ℕ) → FirstSoFar n start r best place j → ¬ LeadsOut r (link_at n.links.items j) → FirstSoFar n start r best place (j + 1)
first_other n start r best place j so inner = record {
  aim = so.aim;
  not_beyond = so.not_beyond;
  stays = λ i h. ⊎_elim
      (λ (e : i ≡ j). subst (λ k. StaysKept n r place (link_at n.links.items k)) (sym e) (λ out. absurd (inner out)))
      (λ (o : i ≡ j → ⊥). so.stays i (omega arith))
      (cases_eq i j);
}

-- a contact that is not before the place
pub first_later : (n : Network) (start : ℕ) (r : Reach) (best place contact : Fraction) (j : ℕ) → FirstSoFar n start r best place j → IsContact n start r (link_at n.links.items j) contact → IsNotBeyond place contact → FirstSoFar n start r best place (j + 1)
first_later n start r best place contact j so at later = record {
  aim = so.aim;
  not_beyond = so.not_beyond;
  stays = λ i h. ⊎_elim
      (λ (e : i ≡ j). subst (λ k. StaysKept n r place (link_at n.links.items k)) (sym e) (λ out. subst (IsNotBeyond place) at.is later))
      (λ (o : i ≡ j → ⊥). so.stays i (omega arith))
      (cases_eq i j);
}

-- a contact before the place
pub first_nearer : (n : Network) (start : ℕ) (r : Reach) (best place contact : Fraction) (j : ℕ) → FirstSoFar n start r best place j → IsContact n start r (link_at n.links.items j) contact → IsNotBeyond contact place → FirstSoFar n start r best contact (j + 1)
first_nearer n start r best place contact j so at nearer = record {
  aim = at.aim;
  not_beyond = not_beyond_trans contact place best so.aim.reduced nearer so.not_beyond;
  stays = λ i h. ⊎_elim
      (λ (e : i ≡ j). subst (λ k. StaysKept n r contact (link_at n.links.items k)) (sym e) (λ out. subst (IsNotBeyond contact) at.is (omega (arith, ints))))
      (λ (o : i ≡ j → ⊥). stays_nearer n r (link_at n.links.items i) place contact so.aim.reduced nearer (so.stays i (omega arith)))
      (cases_eq i j);
}
