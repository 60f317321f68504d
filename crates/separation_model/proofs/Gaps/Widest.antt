-- Latest places: a wider gap that is met makes each narrower one met.
use Rattle.std.proofs.Common.{◌≡◌, ℕ, true, false, cond, ℤ, pos, ◌+ℤ◌, ◌-ℤ◌, ◌*ℤ◌, ◌≤ℤ◌, ◌<ℤ◌, List, [], ◌∷◌, length, All, sym, subst, refl, arith}
use Rattle.std.specs.Prelude.{slice_index, slice_index_or}
use Rattle.std.proofs.lemmas.Int.{ints}
use Rattle.separation_model.specs.declared.bundle.Rule.{Rule}
use Rattle.separation_model.specs.declared.bundle.Bundle.{Bundle}
use Rattle.separation_model.specs.Bundle.{IsBundle, MeetsBundle, item_at, slack, asked, no_item}
use Rattle.separation_model.specs.Gap.{HasPositions, IsWidestGap}
use Rattle.separation_model.specs.Latest.{HasNoPositions}
use Rattle.separation_model.proofs.Arithmetic.Ring.{ring, var, ◌⊗◌, ◌⊖◌}
use Rattle.separation_model.proofs.Arithmetic.Order.{mul-nonneg}
use Rattle.separation_model.proofs.Optimum.Positions.{MeetsOver, listed, listed_meets}

narrower_slack : (wider gap : ℤ) (den : List ℕ) (place : List ℤ) (rule : Rule) → gap ≤ℤ wider → pos 0 ≤ℤ slack wider den place rule → pos 0 ≤ℤ slack gap den place rule
narrower_slack wider gap den place rule h k =
    let l = pos (slice_index den rule.left) in
    let r = pos (slice_index den rule.right) in
    let less : pos 0 ≤ℤ (asked wider rule -ℤ asked gap rule) = elim rule.spaced as (λ t. pos 0 ≤ℤ (cond t wider (pos 0) -ℤ cond t gap (pos 0))) [ true ↦ omega (arith, ints, h) | false ↦ omega (arith, ints) ] in
    let both : pos 0 ≤ℤ (l *ℤ r) = omega (arith, ints) in
    let e : (asked wider rule -ℤ asked gap rule) *ℤ (l *ℤ r) ≡ (asked wider rule *ℤ l *ℤ r) -ℤ (asked gap rule *ℤ l *ℤ r) =
    ring (asked wider rule ∷ asked gap rule ∷ l ∷ r ∷ []) ((var 0 ⊖ var 1) ⊗ (var 2 ⊗ var 3)) ((var 0 ⊗ var 2 ⊗ var 3) ⊖ (var 1 ⊗ var 2 ⊗ var 3)) refl in
    omega (arith, ints, k, e, mul-nonneg (asked wider rule -ℤ asked gap rule) (l *ℤ r) less both)

pub narrower_meets : (b : Bundle) (wider gap : ℤ) (den : List ℕ) (place : List ℤ) → gap ≤ℤ wider → MeetsBundle b wider den place → MeetsBundle b gap den place
narrower_meets b wider gap den place h m = record {
  dens = m.dens;
  places = m.places;
  positive = m.positive;
  limits = m.limits;
  rules = λ k d l. narrower_slack wider gap den place (slice_index_or b.rules.items k d) h (m.rules k d l);
}

-- where no rule asks for a distance, all items may be at their wants
wants_meet : (b : Bundle) (gap : ℤ) → IsBundle b → All (λ r. asked gap r ≡ pos 0) b.rules.items → HasPositions b gap
wants_meet b gap ok free =
    let want : ℕ → ℤ = λ i. (item_at b.items.items i).want in
    let meets : MeetsOver b gap 1 want = record {
      positive = omega arith;
      low = λ i l. omega (arith, ints, (ok.items i no_item l).want_low);
      high = λ i l. omega (arith, ints, (ok.items i no_item l).want_high);
      rules = λ k d l. omega (arith, ints, free k d l, (ok.rules k d l).ordered);
    } in
    record { places = listed (length b.items.items) want; meets = listed_meets b gap 1 want ok meets }

-- with the gap 0 no rule asks for one
none_asked : (b : Bundle) → All (λ r. asked (pos 0) r ≡ pos 0) b.rules.items
none_asked b = λ k d l. elim (slice_index_or b.rules.items k d).spaced as (λ t. cond t (pos 0) (pos 0) ≡ pos 0) [ true ↦ refl | false ↦ refl ]

-- without rules the wanted gap is met
pub widest_free : (b : Bundle) (gap : ℤ) → IsBundle b → length b.rules.items ≡ 0 → gap ≡ b.wanted → IsWidestGap b gap
widest_free b gap ok free is = record {
  low = omega (arith, ints, is, ok.wanted_low);
  high = omega (arith, ints, is);
  positions = wants_meet b gap ok (λ k d l. absurd (omega (arith, l, free)));
  widest = λ wider den nums more most m. absurd (omega (arith, ints, is, more, most));
}

-- a gap that is met, and one from which on none is
pub record IsBetween (b : Bundle) (met unmet : ℤ) : Type 0 where
  pub low : pos 0 ≤ℤ met
  pub apart : met <ℤ unmet
  pub high : unmet ≤ℤ (b.wanted +ℤ pos 1)
  pub positions : HasPositions b met
  pub none : (wider : ℤ) → unmet ≤ℤ wider → wider ≤ℤ b.wanted → HasNoPositions b wider

pub between_none : (b : Bundle) (met unmet : ℤ) → IsBundle b → met ≡ pos 0 → unmet ≡ b.wanted +ℤ pos 1 → IsBetween b met unmet
between_none b met unmet ok zero top = record {
  low = omega (arith, ints);
  apart = omega (arith, ints, ok.wanted_low);
  high = omega (arith, ints);
  positions = subst (HasPositions b) (sym zero) (wants_meet b (pos 0) ok (none_asked b));
  none = λ wider h k. absurd (omega (arith, ints, h, k));
}

pub between_met : (b : Bundle) (met unmet middle : ℤ) → IsBetween b met unmet → met <ℤ middle → middle <ℤ unmet → HasPositions b middle → IsBetween b middle unmet
between_met b met unmet middle h less more found = record {
  low = omega (arith, ints, h.low, less);
  apart = more;
  high = h.high;
  positions = found;
  none = h.none;
}

pub between_unmet : (b : Bundle) (met unmet middle : ℤ) → IsBetween b met unmet → met <ℤ middle → middle <ℤ unmet → HasNoPositions b middle → IsBetween b met middle
between_unmet b met unmet middle h less more none = record {
  low = h.low;
  apart = less;
  high = omega (arith, ints, h.high, more);
  positions = h.positions;
  none = λ wider up k den place m. none den place (narrower_meets b wider middle den place up m);
}

pub between_all : (b : Bundle) (met unmet : ℤ) → IsBetween b met unmet → unmet ≤ℤ (met +ℤ pos 1) → IsWidestGap b met
between_all b met unmet h near = record {
  low = h.low;
  high = omega (arith, ints, h.apart, h.high);
  positions = h.positions;
  widest = λ wider den place more k m. h.none wider (omega (arith, ints, near, more)) k den place m;
}
