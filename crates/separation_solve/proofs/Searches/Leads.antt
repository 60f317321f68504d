-- One step of a search.
use Rattle.std.proofs.Common.{true, false, ◌≡◌, ℕ, ◌^◌, ◌<◌, ◌≤◌, ℤ, pos, negsuc, ◌+ℤ◌, ◌-ℤ◌, ◌*ℤ◌, neg_ℤ, ◌≤ℤ◌, ◌<ℤ◌, FitsSigned, unsigned_abs, Some, List, [], ◌∷◌, length, arith, refl, ap, sym, subst, ◌∙◌, inl, inr, ⊎_elim, w64, lit<}
use Rattle.std.proofs.lemmas.Int.{ints, clamps, fits_signed_from_abs}
use Rattle.plane_geom.specs.Point.{IsCoordinate}
use Rattle.separation_model.specs.Bundle.{int_at}
use Rattle.separation_solve.specs.declared.fraction.Fraction.{Fraction}
use Rattle.separation_solve.specs.declared.network.Link.{Link}
use Rattle.separation_solve.specs.declared.network.Network.{Network}
use Rattle.separation_solve.specs.declared.reach.Step.{Step}
use Rattle.separation_solve.specs.Network.{IsSound, total_size, IsSpot, IsTight, items_of, link_at, place_at}
use Rattle.separation_solve.specs.Reach.{IsLedTo, IsNoLead, IsStep, StandsAt}
use mir.Syntax.{w128}
use lib.Signed.{lt_z}
use Rattle.std.specs.Int.{int_min}
use Rattle.std.proofs.lemmas.Bool.{cases_lt}
use Rattle.std.proofs.lemmas.List.{get_or_past}
use Rattle.separation_model.proofs.Arithmetic.Order.{cancel_le}
use Rattle.separation_model.proofs.Arithmetic.Sums.{part_of_sum, sum_below-sign}
use Rattle.separation_solve.proofs.LightFractions.Spots.{spot_at}
use Rattle.separation_model.proofs.Arithmetic.Ring.{ring, var, ◌⊕◌, ◌⊗◌, ◌⊖◌}

-- places of the sheet are not farther apart than the sheet is wide
pub offset_low : (a b : Fraction) (off : ℤ) → IsSpot a → IsSpot b → StandsAt off a b → negsuc 3999999999 ≤ℤ off
offset_low a b off s t stands =
    cancel_le a.den (negsuc 3999999999) off s.reduced.positive
    (omega (arith, ints, stands.num, stands.den, s.within.high, t.within.low))

pub offset_high : (a b : Fraction) (off : ℤ) → IsSpot a → IsSpot b → StandsAt off a b → off ≤ℤ pos 4000000000
offset_high a b off s t stands =
    cancel_le a.den off (pos 4000000000) s.reduced.positive
    (omega (arith, ints, stands.num, stands.den, s.within.low, t.within.high))

-- the step that stands so far off
pub step_from : (n : Network) (start : ℕ) (step : Step) → IsSound n → start ≤ items_of n → step.node ≤ items_of n →
    StandsAt step.offset (place_at n.places.items start) (place_at n.places.items step.node) → pos 0 <ℤ step.capacity → step.capacity ≤ℤ neg_ℤ (int_at n.excess.items start) → IsStep n start step
step_from n start step sound item node stands some most =
    let s = spot_at n start sound.frame sound.kept item in
    let t = spot_at n step.node sound.frame sound.kept node in
    record {
      node = node;
      stands = stands;
      low = offset_low (place_at n.places.items start) (place_at n.places.items step.node) step.offset s t stands;
      high = offset_high (place_at n.places.items start) (place_at n.places.items step.node) step.offset s t stands;
      some = some;
      most = most;
    }

-- on over a link
pub stands_on : (places : List Fraction) (link : Link) (start : ℕ) (off : ℤ) → StandsAt off (place_at places start) (place_at places link.from) → IsTight places link → StandsAt (off +ℤ link.gap) (place_at places start) (place_at places link.to)
stands_on places link start off stands tight =
    let s = place_at places start in
    let a = place_at places link.from in
    let b = place_at places link.to in
    let same : link.gap *ℤ pos a.den ≡ link.gap *ℤ pos s.den = ap (λ d. link.gap *ℤ pos d) stands.den in
    let sum : (off +ℤ link.gap) *ℤ pos s.den ≡ (off *ℤ pos s.den) +ℤ (link.gap *ℤ pos s.den) =
    ring (off ∷ link.gap ∷ pos s.den ∷ []) ((var 0 ⊕ var 1) ⊗ var 2) ((var 0 ⊗ var 2) ⊕ (var 1 ⊗ var 2)) refl in
    record {
      num = omega (arith, ints, stands.num, tight.apart, same, sum);
      den = sym tight.den ∙ stands.den;
    }

-- back over a link
pub stands_back : (places : List Fraction) (link : Link) (start : ℕ) (off : ℤ) → StandsAt off (place_at places start) (place_at places link.to) → IsTight places link → StandsAt (off -ℤ link.gap) (place_at places start) (place_at places link.from)
stands_back places link start off stands tight =
    let s = place_at places start in
    let a = place_at places link.from in
    let b = place_at places link.to in
    let den : a.den ≡ s.den = tight.den ∙ stands.den in
    let same : link.gap *ℤ pos a.den ≡ link.gap *ℤ pos s.den = ap (λ d. link.gap *ℤ pos d) den in
    let sum : (off -ℤ link.gap) *ℤ pos s.den ≡ (off *ℤ pos s.den) -ℤ (link.gap *ℤ pos s.den) =
    ring (off ∷ link.gap ∷ pos s.den ∷ []) ((var 0 ⊖ var 1) ⊗ var 2) ((var 0 ⊗ var 2) ⊖ (var 1 ⊗ var 2)) refl in
    record {
      num = omega (arith, ints, stands.num, tight.apart, same, sum);
      den = den;
    }

-- no item's excess is too large
pub excess_size : (n : Network) (i : ℕ) → IsSound n → unsigned_abs (int_at n.excess.items i) ≤ 92480000000000000000000000000
excess_size n i sound =
    let zs = n.excess.items in
    let P = unsigned_abs (int_at zs i) ≤ 92480000000000000000000000000 in
    ⊎_elim
    (λ (h : i < length zs).
    let part = part_of_sum (length zs) (λ k. pos (unsigned_abs (int_at zs k))) i h (λ k m. omega (arith, ints)) in
    omega (arith, ints, part, sound.flow.small))
    (λ (h : length zs ≤ i). subst (λ z. unsigned_abs z ≤ 92480000000000000000000000000) (sym (get_or_past zs i (pos 0) h)) (omega arith))
    (cases_lt i (length zs))

-- the start of a step is an item
pub start_in : (n : Network) (start : ℕ) (step : Step) → IsSound n → IsStep n start step → start < items_of n
start_in n start step sound s =
    ⊎_elim
    (λ (h : start < items_of n). h)
    (λ (h : items_of n ≤ start).
    let e : int_at n.excess.items start ≡ pos 0 = get_or_past n.excess.items start (pos 0) (omega (arith, sound.frame.excess)) in
    absurd (omega (arith, ints, e, s.some, s.most)))
    (cases_lt start (items_of n))

-- a step over a link
pub leads_on : (n : Network) (j parent : ℕ) (step : Step) (off : ℤ) → IsSound n → j < length n.links.items →
    (link_at n.links.items j).from ≡ step.node → IsTight n.places.items (link_at n.links.items j) → off ≡ step.offset +ℤ (link_at n.links.items j).gap →
    IsLedTo n j parent step (record { node = (link_at n.links.items j).to; via = Some (record { parent = parent; link = j }); offset = off; capacity = step.capacity })
leads_on n j parent step off sound h from tight e =
    let link = link_at n.links.items j in
    let next : Step = record { node = link.to; via = Some (record { parent = parent; link = j }); offset = off; capacity = step.capacity } in
    let is_link = sound.frame.links j h in
    record {
      via = refl;
      after = record {
        link = h;
        lead = inl (from, refl, tight);
        less = omega (arith, ints);
        back = λ q. absurd (is_link.apart q);
      };
      is_step = λ start is_step.
          let before : StandsAt step.offset (place_at n.places.items start) (place_at n.places.items link.from) = subst (λ i. StandsAt step.offset (place_at n.places.items start) (place_at n.places.items i)) (sym from) is_step.stands in
          let stands : StandsAt off (place_at n.places.items start) (place_at n.places.items link.to) = subst (λ z. StandsAt z (place_at n.places.items start) (place_at n.places.items link.to)) (sym e) (stands_on n.places.items link start step.offset before tight) in
          step_from n start next sound (omega (arith, start_in n start step sound is_step)) (omega (arith, is_link.to)) stands is_step.some is_step.most;
    }

-- a step back over a link with flow
pub leads_back : (n : Network) (j parent : ℕ) (step : Step) (off capacity : ℤ) → IsSound n → j < length n.links.items →
    (link_at n.links.items j).to ≡ step.node → pos 0 <ℤ int_at n.flow.items j → off ≡ step.offset -ℤ (link_at n.links.items j).gap →
    capacity ≤ℤ step.capacity → capacity ≤ℤ int_at n.flow.items j → pos 0 <ℤ capacity →
    IsLedTo n j parent step (record { node = (link_at n.links.items j).from; via = Some (record { parent = parent; link = j }); offset = off; capacity = capacity })
leads_back n j parent step off capacity sound h to flows e less back some =
    let link = link_at n.links.items j in
    let tight = sound.flow.tight j (omega (arith, sound.frame.flow)) (λ q. absurd (omega (arith, ints))) in
    let next : Step = record { node = link.from; via = Some (record { parent = parent; link = j }); offset = off; capacity = capacity } in
    let is_link = sound.frame.links j h in
    record {
      via = refl;
      after = record {
        link = h;
        lead = inr (to, refl, flows);
        less = less;
        back = λ q. back;
      };
      is_step = λ start is_step.
          let before : StandsAt step.offset (place_at n.places.items start) (place_at n.places.items link.to) = subst (λ i. StandsAt step.offset (place_at n.places.items start) (place_at n.places.items i)) (sym to) is_step.stands in
          let stands : StandsAt off (place_at n.places.items start) (place_at n.places.items link.from) = subst (λ z. StandsAt z (place_at n.places.items start) (place_at n.places.items link.from)) (sym e) (stands_back n.places.items link start step.offset before tight) in
          step_from n start next sound (omega (arith, start_in n start step sound is_step)) (omega (arith, is_link.from)) stands some (omega (arith, ints, less, is_step.most));
    }

-- how far a step over a link goes fits
pub sum_fits : (a b : ℤ) → negsuc 3999999999 ≤ℤ a → a ≤ℤ pos 4000000000 → IsCoordinate b → FitsSigned w64 (a +ℤ b)
sum_fits a b low high c = fits_signed_from_abs w64 (a +ℤ b) (omega (arith, ints, c.low, c.high, lit< {m = 6000000000} {n = 2 ^ 63} tt))

pub difference_fits : (a b : ℤ) → negsuc 3999999999 ≤ℤ a → a ≤ℤ pos 4000000000 → IsCoordinate b → FitsSigned w64 (a -ℤ b)
difference_fits a b low high c = fits_signed_from_abs w64 (a -ℤ b) (omega (arith, ints, c.low, c.high, lit< {m = 6000000000} {n = 2 ^ 63} tt))

pub offset_fits : (a : ℤ) → negsuc 3999999999 ≤ℤ a → a ≤ℤ pos 4000000000 → FitsSigned w64 a
offset_fits a low high = fits_signed_from_abs w64 a (omega (arith, ints, lit< {m = 6000000000} {n = 2 ^ 63} tt))

pub capacity_fits : (n : Network) (start : ℕ) (step : Step) → IsSound n → IsStep n start step → FitsSigned w128 step.capacity
capacity_fits n start step sound s = fits_signed_from_abs w128 step.capacity (omega (arith, ints, s.some, s.most, excess_size n start sound, lit< {m = 92480000000000000000000000000} {n = 2 ^ 127} tt))

pub total_size_sign : (zs : List ℤ) → pos 0 ≤ℤ total_size zs
total_size_sign zs = sum_below-sign (length zs) (λ k. pos (unsigned_abs (int_at zs k))) (λ k m. omega (arith, ints))

-- the flow over a link fits
pub flow_fits : (n : Network) (j : ℕ) → IsSound n → j < length n.links.items → FitsSigned w128 (int_at n.flow.items j)
flow_fits n j sound h =
    let inside : j < length n.flow.items = omega (arith, sound.frame.flow) in
    fits_signed_from_abs w128 (int_at n.flow.items j)
    (omega (arith, ints, sound.flow.sign j inside, sound.flow.small_each j inside, total_size_sign n.excess.items, lit< {m = 92480000000000000000000000000} {n = 2 ^ 127} tt))

-- where neither way is open
pub no_lead : (n : Network) (j a : ℕ) → ((link_at n.links.items j).from ≡ a → IsTight n.places.items (link_at n.links.items j) → ⊥) → ((link_at n.links.items j).to ≡ a → pos 0 <ℤ int_at n.flow.items j → ⊥) → IsNoLead n j a
no_lead n j a on back b h = ⊎_elim (λ p. on p.0 p.2) (λ p. back p.0 p.2) h

-- the less of two positive numbers
pub min_positive : (a b r : ℤ) → r ≡ int_min a b → pos 0 <ℤ a → pos 0 <ℤ b → pos 0 <ℤ r
min_positive a b r e h k = omega (arith, ints, clamps)

pub between_fits : (r a : ℤ) → pos 0 <ℤ r → r ≤ℤ a → FitsSigned w128 a → FitsSigned w128 r
between_fits r a some less fits = omega (arith, ints)

-- the consequence of a test of the order
pub lt_true : (a b : ℤ) → lt_z a b ≡ true → a <ℤ b
lt_true a b e = grind (arith, ints)

pub lt_false : (a b : ℤ) → lt_z a b ≡ false → a <ℤ b → ⊥
lt_false a b e h = grind (arith, ints)
