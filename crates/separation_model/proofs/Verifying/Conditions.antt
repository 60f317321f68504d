-- The conditions of a certificate, from what the code finds.
use Rattle.std.proofs.Common.{◌≡◌, ℕ, ◌+◌, ◌*◌, ◌<◌, ◌≤◌, ◌^◌, ℤ, pos, negsuc, ◌+ℤ◌, ◌-ℤ◌, ◌*ℤ◌, ◌≤ℤ◌, ◌<ℤ◌, ◌↔◌, List, length, get_or, drop, All, ap, sym, subst, refl, ◌∙◌, arith, lit<}
use Rattle.std.specs.Prelude.{slice_index}
use Rattle.std.specs.Prelude.{FitsSigned, unsigned_abs}
use Rattle.std.specs.Int.{w128}
use mir.Val.{to_z, of_z}
use Rattle.std.proofs.lemmas.Int.{ints, to_z-of_z, fits_signed_mul}
use Rattle.separation_model.specs.declared.bundle.Item.{Item}
use Rattle.separation_model.specs.declared.bundle.Rule.{Rule}
use Rattle.separation_model.specs.declared.bundle.Bundle.{Bundle}
use Rattle.separation_model.specs.declared.bundle.Solution.{Solution}
use Rattle.separation_model.specs.Sum.{here, sum_at}
use Rattle.plane_geom.specs.Point.{IsCoordinate}
use Rattle.separation_model.specs.Bundle.{int_at, asked, slack, item_at, rule_at, IsItem, IsBundle, no_item, no_rule, PlacesRule, IsGapUpTo}
use Rattle.separation_model.specs.Apart.{FractionIsOnSheet, fraction_slack}
use Rattle.separation_model.specs.Checked.{KeepsLimits, KeepsLimitsAt, KeepsRule, KeepsRuleAt, IsMultiplier, IsMet, IsAtRest, KeepsAllLimits, IsPush}
use Rattle.separation_model.specs.Certified.{from_left, from_right}
use Rattle.separation_model.proofs.Arithmetic.Ring.{mul_comm}
use Rattle.separation_model.proofs.Arithmetic.Order.{mul-mono}
use Rattle.separation_model.proofs.Arithmetic.Exchange.{sum_at-sign}
use Rattle.separation_model.proofs.Optimum.Positions.{ends_within, limits_on_sheet}
use Rattle.std.proofs.lemmas.List.{drop_more, get_or_read}
use Rattle.std.proofs.lemmas.List.Elements.{All-drop}

pub slack_is : (gap : ℤ) (den : List ℕ) (place : List ℤ) (rule : Rule) (p q a : ℤ) (d e : ℕ) → p ≡ int_at place rule.left → d ≡ slice_index den rule.left → q ≡ int_at place rule.right → e ≡ slice_index den rule.right → a ≡ asked gap rule →
    slack gap den place rule ≡ fraction_slack p d q e a
slack_is gap den place rule p q a d e p_is d_is q_is e_is a_is = cc

-- an item that stands within its limits stands on the sheet
pub on_sheet : (item : Item) (den : ℕ) (place low high : ℤ) → IsItem item → KeepsLimits item den place low high → FractionIsOnSheet den place
on_sheet item den place low high ok kept = limits_on_sheet item den place ok kept.positive kept.within

-- so do both items of a rule
pub rule_placed : (b : Bundle) (s : Solution) → IsBundle b → KeepsAllLimits b s → IsGapUpTo b.wanted s.gap → (rs : List Rule) → rs ≡ b.rules.items → (j : ℕ) → j < length rs → PlacesRule s (rule_at rs j)
rule_placed b s ok kept gap rs e j l =
    let at = λ (i : ℕ) (m : i < length b.items.items). on_sheet (item_at b.items.items i) (slice_index s.den.items i) (int_at s.pos.items i) (int_at s.low.items i) (int_at s.high.items i) (ok.items i no_item m) (kept.limits i m) in
    let at_bundle : j < length b.rules.items → PlacesRule s (rule_at b.rules.items j) = λ m. let ends = ends_within b j no_rule ok m in record {
      same = kept.lengths.dens ∙ sym kept.lengths.places;
      left_within = omega (arith, ends.0, kept.lengths.places);
      right_within = omega (arith, ends.1, kept.lengths.places);
      left = at (rule_at b.rules.items j).left ends.0;
      right = at (rule_at b.rules.items j).right ends.1;
      gap = record { low = gap.low; high = omega (arith, ints, gap.high, ok.wanted_high) };
    } in
    subst (λ rs. j < length rs → PlacesRule s (rule_at rs j)) (sym e) at_bundle l

-- the sums over what is left of the rules, one rule on
pub sum_at-drop : {A : Type 0} (end : A → ℕ) (i : ℕ) (xs : List A) (zs : List ℤ) (j : ℕ) (d : A) → j < length xs → length zs ≡ length xs →
    sum_at end i (drop j xs) (drop j zs) ≡ here (end (get_or xs j d)) i (get_or zs j (pos 0)) +ℤ sum_at end i (drop (j + 1) xs) (drop (j + 1) zs)
sum_at-drop end i xs zs j d l same =
    let m : j < length zs = omega arith in
    rw (drop_more xs j d l, drop_more zs j (pos 0) m) refl

pub sum_at-drop_sign : {A : Type 0} (end : A → ℕ) (i : ℕ) (xs : List A) (zs : List ℤ) (j : ℕ) → All IsMultiplier zs → pos 0 ≤ℤ sum_at end i (drop j xs) (drop j zs)
sum_at-drop_sign end i xs zs j ok = sum_at-sign end i (drop j xs) (drop j zs) (All-drop (λ z. pos 0 ≤ℤ z) j zs (λ k d l. (ok k d l).sign))

-- what the code finds of a rule, as a condition at its index
pub kept_here : (b : Bundle) (s : Solution) (rs : List Rule) → rs ≡ b.rules.items → (j : ℕ) (m : ℤ) → j < length s.mult.items → m ≡ get_or s.mult.items j m →
    KeepsRule s.gap s.den.items s.pos.items (rule_at rs j) m ↔ KeepsRuleAt b s j
kept_here b s rs e j m l is =
    let P : List Rule → ℤ → Type 0 = λ rs m. KeepsRule s.gap s.den.items s.pos.items (rule_at rs j) m in
    let read = get_or_read s.mult.items j m l is (pos 0) in (
      λ kept. subst (λ m. P b.rules.items m) read (subst (λ rs. P rs m) e kept),
      λ kept. subst (λ rs. P rs m) (sym e) (subst (λ m. P b.rules.items m) (sym read) kept),
    )

pub bits_back : (m : ℤ) → IsMultiplier m → to_z w128 (of_z w128 m) ≡ m
bits_back m ok = let fits : FitsSigned w128 m = omega (arith, ints, ok.sign, ok.small) in to_z-of_z w128 m fits

pub here_is : (end item : ℕ) (m r : ℤ) → IsMultiplier m → r ≡ here end item (to_z w128 (of_z w128 m)) → r ≡ here end item m
here_is end item m r ok e = e ∙ ap (here end item) (bits_back m ok)

pub limit_on_sheet : (limit : ℤ) (den : ℕ) → IsCoordinate limit → 0 < den → FractionIsOnSheet den (limit *ℤ pos den)
limit_on_sheet limit den ok positive = record {
  positive = positive;
  low = omega (arith, ints, mul_comm (pos den) limit, mul_comm (pos den) (negsuc 1999999999), mul-mono (pos den) (negsuc 1999999999) limit (omega (arith, ints)) ok.low);
  high = omega (arith, ints, mul_comm (pos den) limit, mul_comm (pos den) (pos 2000000000), mul-mono (pos den) limit (pos 2000000000) (omega (arith, ints)) ok.high);
}

-- an item's limits, by each of them
pub limits_from : (item : Item) (den : ℕ) (place low high : ℤ) → IsItem item → den < 2 ^ 64 → 0 < den → IsMet (item.lo *ℤ pos den) place low → IsMet place (item.hi *ℤ pos den) high → KeepsLimits item den place low high
limits_from item den place low high ok fits positive at_low at_high =
    let left = limit_on_sheet item.lo den ok.lo positive in
    let right = limit_on_sheet item.hi den ok.hi positive in
    record {
      positive = positive;
      within = record { low = at_low.ordered; high = at_high.ordered };
      small = omega (arith, ints, left.low, right.high, at_low.ordered, at_high.ordered);
      tight = record { at_low = λ some. sym (at_low.tight some); at_high = at_high.tight };
    }

pub low_from : (item : Item) (den : ℕ) (place low high : ℤ) → KeepsLimits item den place low high → IsMet (item.lo *ℤ pos den) place low
low_from item den place low high k = record { ordered = k.within.low; tight = λ some. sym (k.tight.at_low some) }

pub high_from : (item : Item) (den : ℕ) (place low high : ℤ) → KeepsLimits item den place low high → IsMet place (item.hi *ℤ pos den) high
high_from item den place low high k = record { ordered = k.within.high; tight = k.tight.at_high }

pub met_back : (least most m x y z : ℤ) → x ≡ least → y ≡ most → z ≡ m → IsMet x y z ↔ IsMet least most m
met_back least most m x y z e f g = (
  λ h. subst (λ v. IsMet least most v) g (subst (λ v. IsMet least v z) f (subst (λ v. IsMet v y z) e h)),
  λ h. subst (λ v. IsMet v y z) (sym e) (subst (λ v. IsMet least v z) (sym f) (subst (λ v. IsMet least most v) (sym g) h)),
)

-- what the code finds of an item, as a condition at its index
pub limits_here : (b : Bundle) (s : Solution) (is : List Item) (i d : ℕ) (p lo hi : ℤ) → is ≡ b.items.items → d ≡ slice_index s.den.items i → p ≡ int_at s.pos.items i → lo ≡ int_at s.low.items i → hi ≡ int_at s.high.items i →
    KeepsLimits (item_at is i) d p lo hi ↔ KeepsLimitsAt b s i
limits_here b s is i d p lo hi is_is d_is p_is lo_is hi_is =
    let P : List Item → ℕ → ℤ → ℤ → ℤ → Type 0 = λ is d p lo hi. KeepsLimits (item_at is i) d p lo hi in (
      λ k. subst (λ v. P b.items.items (slice_index s.den.items i) (int_at s.pos.items i) (int_at s.low.items i) v) hi_is
          (subst (λ v. P b.items.items (slice_index s.den.items i) (int_at s.pos.items i) v hi) lo_is
          (subst (λ v. P b.items.items (slice_index s.den.items i) v lo hi) p_is
          (subst (λ v. P b.items.items v p lo hi) d_is (subst (λ v. P v d p lo hi) is_is k)))),
      λ k. subst (λ v. P v d p lo hi) (sym is_is) (subst (λ v. P b.items.items v p lo hi) (sym d_is)
          (subst (λ v. P b.items.items (slice_index s.den.items i) v lo hi) (sym p_is)
          (subst (λ v. P b.items.items (slice_index s.den.items i) (int_at s.pos.items i) v hi) (sym lo_is)
          (subst (λ v. P b.items.items (slice_index s.den.items i) (int_at s.pos.items i) (int_at s.low.items i) v) (sym hi_is) k)))),
    )

pub want_on_sheet : (item : Item) → IsItem item → IsCoordinate item.want
want_on_sheet item ok = record { low = omega (arith, ints, ok.lo.low, ok.want_low); high = omega (arith, ints, ok.hi.high, ok.want_high) }

-- a position and a want, twice the weight times apart
pub displacement_fits : (weight den : ℕ) (place limit : ℤ) → weight ≤ 4 → den < 2 ^ 64 → FractionIsOnSheet den place → FractionIsOnSheet den limit → FitsSigned w128 (pos (2 * weight) *ℤ (place -ℤ limit))
displacement_fits weight den place limit few small a b =
    let bound : unsigned_abs (place -ℤ limit) ≤ 2 ^ 97 = omega (arith, ints, a.low, a.high, b.low, b.high) in
    fits_signed_mul w128 (pos (2 * weight)) (place -ℤ limit) 8 (2 ^ 97) (omega arith) bound (lit< tt)

-- the code's product fits
pub displacement_fits_as : (weight den : ℕ) (place limit x y : ℤ) → weight ≤ 4 → den < 2 ^ 64 → FractionIsOnSheet den place → FractionIsOnSheet den limit → x ≡ pos (2 * weight) → y ≡ place -ℤ limit →
    FitsSigned w128 (x *ℤ y)
displacement_fits_as weight den place limit x y few small a b x_is y_is =
    let e : pos (2 * weight) *ℤ (place -ℤ limit) ≡ x *ℤ y = ap (λ v. v *ℤ (place -ℤ limit)) (sym x_is) ∙ ap (λ v. x *ℤ v) (sym y_is) in
    subst (FitsSigned w128) e (displacement_fits weight den place limit few small a b)

-- the code's product is the displacement
pub displacement_as : (weight den : ℕ) (place want limit x y : ℤ) → weight ≤ 4 → den < 2 ^ 64 → FractionIsOnSheet den place → FractionIsOnSheet den limit → limit ≡ want *ℤ pos den → x ≡ pos (2 * weight) → y ≡ place -ℤ limit →
    to_z w128 (of_z w128 (x *ℤ y)) ≡ pos (2 * weight) *ℤ (place -ℤ (pos den *ℤ want))
displacement_as weight den place want limit x y few small a b limit_is x_is y_is =
    to_z-of_z w128 (x *ℤ y) (displacement_fits_as weight den place limit x y few small a b x_is y_is)
    ∙ ap (λ v. v *ℤ y) x_is ∙ ap (λ v. pos (2 * weight) *ℤ v) (y_is ∙ ap (λ v. place -ℤ v) (limit_is ∙ mul_comm want (pos den)))

-- a coordinate over a denominator
pub want_over : (want : ℤ) (den : ℕ) (z : ℤ) → IsCoordinate want → 0 < den → z ≡ want *ℤ pos den → FractionIsOnSheet den z
want_over want den z ok positive e = subst (λ v. FractionIsOnSheet den v) (sym e) (limit_on_sheet want den ok positive)

-- the meaning of the code's two sums for an item
pub rest_from : (b : Bundle) (s : Solution) (i : ℕ) (left right low high displacement rightward leftward : ℤ) →
    left ≡ from_left i b.rules.items s.mult.items → right ≡ from_right i b.rules.items s.mult.items → low ≡ int_at s.low.items i → high ≡ int_at s.high.items i →
    displacement ≡ pos 2 *ℤ pos (item_at b.items.items i).weight *ℤ (int_at s.pos.items i -ℤ (pos (slice_index s.den.items i) *ℤ (item_at b.items.items i).want)) →
    rightward ≡ left +ℤ low → leftward ≡ right +ℤ high →
    ((rightward +ℤ leftward) ≤ℤ pos (2 ^ 126)) × (displacement ≡ rightward -ℤ leftward) ↔ IsAtRest b s i
rest_from b s i left right low high displacement rightward leftward left_is right_is low_is high_is is r_is l_is = (
  λ h. record { small = omega (arith, ints, h.0, left_is, right_is, low_is, high_is, r_is, l_is); balanced = sym is ∙ h.1 ∙ omega (arith, ints, left_is, right_is, low_is, high_is, r_is, l_is) },
  λ h. (omega (arith, ints, h.small, left_is, right_is, low_is, high_is, r_is, l_is), is ∙ h.balanced ∙ omega (arith, ints, left_is, right_is, low_is, high_is, r_is, l_is)),
)

-- each of two sums is at most what both may be
pub part : (a b : ℤ) → pos 0 ≤ℤ b → (a +ℤ b) ≤ℤ pos (2 ^ 126) → a ≤ℤ pos (2 ^ 126)
part a b h k = omega (arith, ints)

pub other_part : (a b : ℤ) → pos 0 ≤ℤ a → (a +ℤ b) ≤ℤ pos (2 ^ 126) → b ≤ℤ pos (2 ^ 126)
other_part a b h k = omega (arith, ints)

-- the code's sum of a sum so far and a multiplier
one_is : (a m : ℤ) → pos 0 ≤ℤ a → a ≤ℤ pos (2 ^ 126) → IsMultiplier m → to_z w128 (of_z w128 a) +ℤ to_z w128 (of_z w128 m) ≡ a +ℤ m
one_is a m low high ok =
    let fits : FitsSigned w128 a = omega (arith, ints) in
    ap (λ v. v +ℤ to_z w128 (of_z w128 m)) (to_z-of_z w128 a fits) ∙ ap (λ v. a +ℤ v) (bits_back m ok)

pub more_fits : (a m : ℤ) → pos 0 ≤ℤ a → a ≤ℤ pos (2 ^ 126) → IsMultiplier m → FitsSigned w128 (a +ℤ m)
more_fits a m low high ok = omega (arith, ints, ok.sign, ok.small)

pub one_fits : (a m : ℤ) → pos 0 ≤ℤ a → a ≤ℤ pos (2 ^ 126) → IsMultiplier m → FitsSigned w128 (to_z w128 (of_z w128 a) +ℤ to_z w128 (of_z w128 m))
one_fits a m low high ok = subst (FitsSigned w128) (sym (one_is a m low high ok)) (more_fits a m low high ok)

pub one_read : (a m : ℤ) → pos 0 ≤ℤ a → a ≤ℤ pos (2 ^ 126) → IsMultiplier m → to_z w128 (of_z w128 (to_z w128 (of_z w128 a) +ℤ to_z w128 (of_z w128 m))) ≡ a +ℤ m
one_read a m low high ok = ap (λ v. to_z w128 (of_z w128 v)) (one_is a m low high ok) ∙ to_z-of_z w128 (a +ℤ m) (more_fits a m low high ok)

-- such a sum is not negative
pub more_low : (x a m : ℤ) → x ≡ a +ℤ m → pos 0 ≤ℤ a → IsMultiplier m → pos 0 ≤ℤ x
more_low x a m e low ok = omega (arith, ints, ok.sign)

-- the code's sums of what the rules and the limits push by
pub both_sums : (left right from_left from_right low high : ℤ) → IsPush left right from_left from_right → IsMultiplier low → IsMultiplier high →
    (to_z w128 (of_z w128 (to_z w128 (of_z w128 from_left) +ℤ to_z w128 (of_z w128 low))) ≡ from_left +ℤ low)
    × (to_z w128 (of_z w128 (to_z w128 (of_z w128 from_right) +ℤ to_z w128 (of_z w128 high))) ≡ from_right +ℤ high)
both_sums left right from_left from_right low high push l h =
    (one_read from_left low push.left_low (part from_left from_right push.right_low push.small) l, one_read from_right high push.right_low (other_part from_left from_right push.left_low push.small) h)

pub together_small : (rightward leftward left right low high : ℤ) → rightward ≡ left +ℤ low → leftward ≡ right +ℤ high → (left +ℤ right) ≤ℤ pos (2 ^ 126) → low ≤ℤ pos (2 ^ 100) → high ≤ℤ pos (2 ^ 100) →
    (rightward +ℤ leftward) ≤ℤ pos (2 ^ 126 + 2 ^ 101)
together_small rightward leftward left right low high e f h k l = omega (arith, ints)

pub too_large : (l r low high left right : ℤ) → l ≡ left → r ≡ right → pos (2 ^ 126) <ℤ (l +ℤ r) → ((left +ℤ right) +ℤ low +ℤ high) ≤ℤ pos (2 ^ 126) → pos 0 ≤ℤ low → pos 0 ≤ℤ high → ⊥
too_large l r low high left right e f h k a b = omega (arith, ints)
