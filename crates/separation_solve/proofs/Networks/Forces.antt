-- The force of an item, and networks with no flow.
use Rattle.std.proofs.Common.{◌≡◌, ℕ, zero, suc, ◌+◌, ◌^◌, ◌<◌, ◌≤◌, ℤ, pos, ◌-ℤ◌, ◌*ℤ◌, ◌≤ℤ◌, FitsSigned, unsigned_abs, Vec, All, length, set, slice_index, arith, ap, sym, subst, ◌∙◌, mul-le-mul, lit<, ⊎_elim, length-set, get_or-set_same, get_or-set_other}
use Rattle.std.proofs.lemmas.Bool.{cases_eq}
use mir.Syntax.{w128}
use Rattle.separation_model.specs.Arena.{Arena}
use Rattle.std.proofs.lemmas.Int.{ints, fits_signed_from_abs, unsigned_abs-mul}
use Rattle.std.proofs.lemmas.List.Elements.{All-get_or, All-from_get_or}
use Rattle.plane_geom.specs.Point.{IsCoordinate}
use Rattle.separation_model.specs.Bundle.{int_at}
use Rattle.separation_solve.specs.declared.fraction.Fraction.{Fraction}
use Rattle.separation_solve.specs.declared.network.Link.{Link}
use Rattle.separation_solve.specs.declared.network.Network.{Network}
use Rattle.separation_solve.specs.Network.{AreKept, IsFrame, IsSound, IsSpot, ListsTight, force, items_of, most_force, place_at, total_size}
use Rattle.separation_model.specs.Sum.{sum_below}
use Rattle.separation_model.proofs.Arithmetic.Exchange.{sum_at-zero}
use Rattle.separation_model.proofs.Arithmetic.Order.{mul-mono}
use Rattle.separation_solve.proofs.LightFractions.Spots.{spot_at, spot_num}
use Rattle.separation_model.proofs.Arithmetic.Sums.{sum_below-le, sum_below-zero}

-- the want, over the place's denominator
pub want_over_size : (p : Fraction) (want : ℤ) → IsSpot p → IsCoordinate want → unsigned_abs (pos p.den *ℤ want) ≤ 6800000000000000000
want_over_size p want s c =
    let high = mul-mono (pos p.den) want (pos 2000000000) (omega (arith, ints)) c.high in
    let low = mul-mono (pos p.den) (pos 0 -ℤ pos 2000000000) want (omega (arith, ints)) (omega (arith, ints, c.low)) in
    omega (arith, ints, high, low, s.light)

pub displaced_size : (p : Fraction) (want : ℤ) → IsSpot p → IsCoordinate want → unsigned_abs (p.num -ℤ (pos p.den *ℤ want)) ≤ 13600000000000000000
displaced_size p want s c = omega (arith, ints, spot_num p s, want_over_size p want s c)

pub weight_size : (w : ℕ) → w ≤ 4 → unsigned_abs (pos 2 *ℤ pos w) ≤ 8
weight_size w h = omega (arith, ints)

pub force_size : (p : Fraction) (want : ℤ) (w : ℕ) → IsSpot p → IsCoordinate want → w ≤ 4 → unsigned_abs (pos 2 *ℤ pos w *ℤ (p.num -ℤ (pos p.den *ℤ want))) ≤ 108800000000000000000
force_size p want w s c h =
    let e = unsigned_abs-mul (pos 2 *ℤ pos w) (p.num -ℤ (pos p.den *ℤ want)) in
    let le = mul-le-mul (weight_size w h) (displaced_size p want s c) in
    omega (arith, e, le)

-- the parts of an item
pub weight_at : (n : Network) (i : ℕ) → IsFrame n → i < items_of n → slice_index n.weights.items i ≤ 4
weight_at n i frame h = All-get_or (λ w. w ≤ 4) n.weights.items i 0 (omega (arith, frame.weights)) frame.light

pub want_at : (n : Network) (i : ℕ) → IsFrame n → i < items_of n → IsCoordinate (int_at n.wants.items i)
want_at n i frame h = All-get_or IsCoordinate n.wants.items i (pos 0) h frame.wants

pub force_at_size : (n : Network) (i : ℕ) → IsFrame n → AreKept n → i < items_of n → unsigned_abs (force n i) ≤ 108800000000000000000
force_at_size n i frame kept h = force_size (place_at n.places.items i) (int_at n.wants.items i) (slice_index n.weights.items i) (spot_at n i frame kept (omega arith)) (want_at n i frame h) (weight_at n i frame h)

sum_below-constant : (k : ℕ) (c : ℤ) → sum_below k (λ _. c) ≡ pos k *ℤ c
sum_below-constant zero c = omega (arith, ints)
sum_below-constant (suc k) c = omega (arith, ints, sum_below-constant k c)

-- forces are together not too large
total_forces : (n : Network) → IsFrame n → AreKept n → ((i : ℕ) → i < length n.excess.items → int_at n.excess.items i ≡ force n i) → total_size n.excess.items ≤ℤ pos most_force
total_forces n frame kept is =
    let k = length n.excess.items in
    let each = sum_below-le k (λ i. pos (unsigned_abs (int_at n.excess.items i))) (λ _. pos 108800000000000000000)
    (λ i h. omega (arith, ints, ap unsigned_abs (is i h), force_at_size n i frame kept (omega (arith, h, frame.excess)))) in
    omega (arith, ints, each, sum_below-constant k (pos 108800000000000000000), frame.few, frame.excess)

-- no flow, and all that the forces are as excess
pub no_flow : (n : Network) → IsFrame n → AreKept n → ListsTight n.places.items n.links.items n.tight.items → ((j : ℕ) → j < length n.flow.items → int_at n.flow.items j ≡ pos 0) → ((i : ℕ) → i < length n.excess.items → int_at n.excess.items i ≡ force n i) → IsSound n
no_flow n frame kept tight none is =
    let all : All (λ z. z ≡ pos 0) n.flow.items = All-from_get_or (λ z. z ≡ pos 0) n.flow.items (pos 0) none in
    let size = total_forces n frame kept is in
    let sum = sum_below-zero (length n.flow.items) (int_at n.flow.items) none in
    record {
      frame = frame;
      kept = kept;
      tight = tight;
      flow = record {
        sign = λ j h. omega (arith, ints, none j h);
        tight = λ j h some. absurd (some (none j h));
        excess = λ i h. omega (arith, ints, is i h, sum_at-zero (λ (l : Link). l.to) i n.links.items n.flow.items all, sum_at-zero (λ (l : Link). l.from) i n.links.items n.flow.items all);
        small = size;
        small_each = λ j h. omega (arith, ints, none j h, size);
        small_all = omega (arith, ints, sum, mul-mono (pos (items_of n)) (total_size n.excess.items) (pos most_force) (omega (arith, ints)) size);
      };
    }

-- how far taking away all flow has come: no flow, and the forces of the first items as excess
pub record IsReleasing (n now : Network) (k : ℕ) : Type 0 where
  pub rest : now ≡ record n { flow = now.flow; excess = now.excess }
  pub flow_long : length now.flow.items ≡ length n.flow.items
  pub excess_long : length now.excess.items ≡ length n.excess.items
  pub cleared : (j : ℕ) → j < length now.flow.items → int_at now.flow.items j ≡ pos 0
  pub done : (i : ℕ) → i < k → int_at now.excess.items i ≡ force n i

pub frame_with : (n : Network) (flow excess : Vec ℤ Arena) → IsFrame n → length flow.items ≡ length n.flow.items → length excess.items ≡ length n.excess.items → IsFrame (record n { flow = flow; excess = excess })
frame_with n flow excess frame long also = record {
  few = frame.few;
  weights = frame.weights;
  excess = also ∙ frame.excess;
  places = frame.places;
  lists = frame.lists;
  flow = long ∙ frame.flow;
  light = frame.light;
  heavy = frame.heavy;
  wants = frame.wants;
  links = frame.links;
  limited = frame.limited;
}

pub kept_with : (n : Network) (flow excess : Vec ℤ Arena) → AreKept n → AreKept (record n { flow = flow; excess = excess })
kept_with n flow excess kept = record {
  spots = kept.spots;
  wall_num = kept.wall_num;
  wall_den = kept.wall_den;
  kept = kept.kept;
}

pub releasing_frame : (n now : Network) (k : ℕ) → IsFrame n → IsReleasing n now k → IsFrame now
releasing_frame n now k frame r = subst IsFrame (sym r.rest) (frame_with n now.flow now.excess frame r.flow_long r.excess_long)

pub releasing_kept : (n now : Network) (k : ℕ) → AreKept n → IsReleasing n now k → AreKept now
releasing_kept n now k kept r = subst AreKept (sym r.rest) (kept_with n now.flow now.excess kept)

-- the forces do not hang on the flow
force_same : (n now : Network) (k i : ℕ) → IsReleasing n now k → force now i ≡ force n i
force_same n now k i r = ap (λ (m : Network). force m i) r.rest

pub released : (n now : Network) (k : ℕ) → IsFrame n → AreKept n → ListsTight n.places.items n.links.items n.tight.items → IsReleasing n now k → length now.excess.items ≤ k → IsSound now
released n now k frame kept tight r all =
    no_flow now (releasing_frame n now k frame r) (releasing_kept n now k kept r)
    (subst (λ (m : Network). ListsTight m.places.items m.links.items m.tight.items) (sym r.rest) tight) r.cleared
    (λ i h. r.done i (omega (arith, h, all)) ∙ sym (force_same n now k i r))

pub releasing_more : (n now : Network) (excess : Vec ℤ Arena) (k : ℕ) (z : ℤ) → IsReleasing n now k → k < length now.excess.items → excess.items ≡ set now.excess.items k z → z ≡ force now k → IsReleasing n (record now { excess = excess }) (k + 1)
releasing_more n now excess k z r h is e = record {
  rest = ap (λ (m : Network). record m { excess = excess }) r.rest;
  flow_long = r.flow_long;
  excess_long = ap length is ∙ length-set now.excess.items k z ∙ r.excess_long;
  cleared = r.cleared;
  done = λ i l. ⊎_elim
      (λ (q : i ≡ k). ap (λ zs. int_at zs i) is ∙ ap (int_at (set now.excess.items k z)) q ∙ get_or-set_same now.excess.items k z (pos 0) h ∙ e ∙ force_same n now k k r ∙ ap (force n) (sym q))
      (λ (q : i ≡ k → ⊥). ap (λ zs. int_at zs i) is ∙ get_or-set_other now.excess.items k i z (pos 0) q ∙ r.done i (omega arith))
      (cases_eq i k);
}

pub force_at_fits : (n : Network) (i : ℕ) → IsFrame n → AreKept n → i < items_of n → FitsSigned w128 (force n i)
force_at_fits n i frame kept h = fits_signed_from_abs w128 (force n i) (omega (arith, force_at_size n i frame kept h, lit< {m = 108800000000000000000} {n = 2 ^ 127} tt))
