-- Rounding down: it keeps whole limits and whole gaps, and equal fractions have one rounding.
use Rattle.std.proofs.Common.{◌≡◌, ℕ, zero, suc, ◌*◌, ◌<◌, ℤ, pos, negsuc, ◌+ℤ◌, ◌-ℤ◌, ◌*ℤ◌, ◌≤ℤ◌, ◌<ℤ◌, List, [], ◌∷◌, length, get_or, replicate, ◌↔◌, refl, sym, ap, subst, ◌∙◌, arith}
use Rattle.std.specs.Prelude.{slice_index, slice_index_or}
use Rattle.std.specs.Int.{int_div_euclid, int_rem_euclid}
use Rattle.std.proofs.lemmas.Int.{ints}
use Rattle.std.proofs.lemmas.List.{ext_get_or, length-replicate, get_or-replicate}
use Rattle.std.proofs.lemmas.List.Elements.{All-get_or, All-replicate}
use Rattle.plane_geom.specs.Point.{IsCoordinate}
use Rattle.separation_model.specs.declared.bundle.Bundle.{Bundle}
use Rattle.separation_model.specs.declared.bundle.Solution.{Solution}
use Rattle.separation_model.specs.Apart.{FractionIsOnSheet}
use Rattle.separation_model.specs.Bundle.{IsBundle, MeetsBundle, SolutionIsOnSheet, asked, int_at, item_at, no_item}
use Rattle.separation_model.specs.Least.{IsLeast}
use Rattle.separation_model.specs.Rounded.{IsRoundedDown, all_rounded_down, rounded_down}
use Rattle.separation_model.proofs.Arithmetic.Ring.{mul_comm, mul-add, mul_assoc}
use Rattle.separation_model.proofs.Arithmetic.Order.{mul-mono, nat_mul_positive, mul-less, cancel_less, le_both}
use Rattle.separation_model.proofs.Optimum.Positions.{ends_within, limits_on_sheet}
use Rattle.separation_model.proofs.Optimum.Middle.{one_place}

-- a number is its quotient by a positive one, times that one, plus its remainder
pub euclid : (top : ℤ) (den : ℕ) → 0 < den → top ≡ (int_div_euclid top (pos den) *ℤ pos den) +ℤ int_rem_euclid top (pos den)
euclid (pos a) den h = omega (arith, ints)
euclid (negsuc a) den h = omega (arith, ints)

rest_within : (top : ℤ) (den : ℕ) → 0 < den → (pos 0 ≤ℤ int_rem_euclid top (pos den)) × (int_rem_euclid top (pos den) <ℤ pos den)
rest_within (pos a) den h = (omega (arith, ints), omega (arith, ints))
rest_within (negsuc a) den h = (omega (arith, ints), omega (arith, ints))

one_more : (z : ℤ) (den : ℕ) → (z +ℤ pos 1) *ℤ pos den ≡ (z *ℤ pos den) +ℤ pos den
one_more z den = mul_comm (z +ℤ pos 1) (pos den) ∙ mul-add (pos den) z (pos 1) ∙ omega (arith, ints, mul_comm (pos den) z)

pub rounded_down_is : (num : ℤ) (den : ℕ) → 0 < den → IsRoundedDown num den (rounded_down num den)
rounded_down_is num den some =
    let rest = rest_within num den some in
    let sum = euclid num den some in
    record {
      not_above = omega (arith, ints, rest.0, sum);
      next_above = omega (arith, ints, rest.1, sum, one_more (rounded_down num den) den);
    }

-- a fraction below the next whole number after z, and not below y, over one denominator: z is not below y
over_one : (y z num : ℤ) (den : ℕ) → 0 < den → (y *ℤ pos den) ≤ℤ num → num <ℤ ((z +ℤ pos 1) *ℤ pos den) → y ≤ℤ z
over_one y z num den some low high =
    let less : (y *ℤ pos den) <ℤ ((z +ℤ pos 1) *ℤ pos den) = omega (arith, ints, low, high) in
    let f = cancel_less den y (z +ℤ pos 1) some (rw (mul_comm (pos den) y, mul_comm (pos den) (z +ℤ pos 1)) less) in
    omega (arith, ints, f)

-- a whole limit below, and one above
pub rounded_low : (lo num z : ℤ) (den : ℕ) → 0 < den → (lo *ℤ pos den) ≤ℤ num → IsRoundedDown num den z → lo ≤ℤ z
rounded_low lo num z den some h r = over_one lo z num den some h r.next_above

pub rounded_high : (hi num z : ℤ) (den : ℕ) → 0 < den → num ≤ℤ (hi *ℤ pos den) → IsRoundedDown num den z → z ≤ℤ hi
rounded_high hi num z den some h r =
    over_one z hi num den some r.not_above (omega (arith, ints, h, some, one_more hi den))

over_both : (y : ℤ) (d e : ℕ) → pos e *ℤ (y *ℤ pos d) ≡ pos (d * e) *ℤ y
over_both y d e = ap (λ t. pos e *ℤ t) (mul_comm y (pos d)) ∙ sym (mul_assoc (pos e) (pos d) y) ∙ ap (λ t. t *ℤ y) (mul_comm (pos e) (pos d))

over_swapped : (z : ℤ) (d e : ℕ) → pos d *ℤ (z *ℤ pos e) ≡ pos (d * e) *ℤ z
over_swapped z d e = ap (λ t. pos d *ℤ t) (mul_comm z (pos e)) ∙ sym (mul_assoc (pos d) (pos e) z)

over_gap : (k : ℤ) (d e : ℕ) → k *ℤ pos d *ℤ pos e ≡ pos (d * e) *ℤ k
over_gap k d e = mul_assoc k (pos d) (pos e) ∙ mul_comm k (pos (d * e))

gap_sum : (c y k t a b : ℤ) → c *ℤ (y +ℤ k) ≡ (c *ℤ y) +ℤ (c *ℤ k) → (c *ℤ y) ≤ℤ a → b <ℤ t → pos 0 ≤ℤ (b -ℤ a -ℤ (c *ℤ k)) → (c *ℤ (y +ℤ k)) <ℤ t
gap_sum c y k t a b e f g h = omega (arith, ints, e, f, g, h)

-- a whole gap between two positions stays
pub rounded_gap : (p q y z k : ℤ) (d e : ℕ) → 0 < d → 0 < e → IsRoundedDown p d y → IsRoundedDown q e z →
    pos 0 ≤ℤ ((q *ℤ pos d) -ℤ (p *ℤ pos e) -ℤ (k *ℤ pos d *ℤ pos e)) → (y +ℤ k) ≤ℤ z
rounded_gap p q y z k d e some more down other far =
    let c = pos (d * e) in
    let f = rw (over_both y d e) at (mul-mono (pos e) (y *ℤ pos d) p (omega (arith, ints)) down.not_above) in
    let g = rw (over_swapped (z +ℤ pos 1) d e) at (mul-less (pos d) q ((z +ℤ pos 1) *ℤ pos e) (omega (arith, ints)) other.next_above) in
    let h = rw (mul_comm q (pos d), mul_comm p (pos e), over_gap k d e) at far in
    let r : (c *ℤ (y +ℤ k)) <ℤ (c *ℤ (z +ℤ pos 1)) = gap_sum c y k (c *ℤ (z +ℤ pos 1)) (pos e *ℤ p) (pos d *ℤ q) (mul-add c y k) f g h in
    let s = cancel_less (d * e) (y +ℤ k) (z +ℤ pos 1) (nat_mul_positive d e some more) r in
    omega (arith, ints, s)

-- equal fractions have one rounding
same_slack : (p q : ℤ) (d e : ℕ) → p *ℤ pos e ≡ q *ℤ pos d → pos 0 ≤ℤ ((q *ℤ pos d) -ℤ (p *ℤ pos e) -ℤ (pos 0 *ℤ pos d *ℤ pos e))
same_slack p q d e same = omega (arith, ints, same)

pub one_whole : (p q y z : ℤ) (d e : ℕ) → 0 < d → 0 < e → p *ℤ pos e ≡ q *ℤ pos d → IsRoundedDown p d y → IsRoundedDown q e z → y ≡ z
one_whole p q y z d e some more same down other =
    let f = rounded_gap p q y z (pos 0) d e some more down other (same_slack p q d e same) in
    let g = rounded_gap q p z y (pos 0) e d more some other down (same_slack q p e d (sym same)) in
    le_both y z (omega (arith, ints, f)) (omega (arith, ints, g))

-- the list of roundings, index by index
pub length-all_rounded_down : (dens : List ℕ) (nums : List ℤ) → length nums ≡ length dens → length (all_rounded_down dens nums) ≡ length dens
length-all_rounded_down [] nums h = refl
length-all_rounded_down (d ∷ dens) [] h = absurd (omega arith)
length-all_rounded_down (d ∷ dens) (n ∷ nums) h = ap suc (length-all_rounded_down dens nums (omega arith))

pub all_rounded_down-at : (dens : List ℕ) (nums : List ℤ) (i : ℕ) → length nums ≡ length dens → i < length dens →
    int_at (all_rounded_down dens nums) i ≡ rounded_down (int_at nums i) (slice_index dens i)
all_rounded_down-at [] nums i h l = absurd (omega arith)
all_rounded_down-at (d ∷ dens) [] i h l = absurd (omega arith)
all_rounded_down-at (d ∷ dens) (n ∷ nums) zero h l = refl
all_rounded_down-at (d ∷ dens) (n ∷ nums) (suc i) h l = all_rounded_down-at dens nums i (omega arith) (omega arith)

down_at : (b : Bundle) (gap : ℤ) (den : List ℕ) (place : List ℤ) → MeetsBundle b gap den place → (i : ℕ) → i < length b.items.items →
    IsRoundedDown (int_at place i) (slice_index den i) (int_at (all_rounded_down den place) i)
down_at b gap den place m i l =
    let some : 0 < slice_index den i = All-get_or (λ d. 0 < d) den i 0 (omega (arith, l, m.dens)) m.positive in
    subst (IsRoundedDown (int_at place i) (slice_index den i)) (sym (all_rounded_down-at den place i (m.places ∙ sym m.dens) (omega (arith, l, m.dens))))
    (rounded_down_is (int_at place i) (slice_index den i) some)

-- the positions rounded down meet the bundle with the same whole gap
pub rounded_meets : (b : Bundle) (gap : ℤ) (den : List ℕ) (place : List ℤ) → IsBundle b → MeetsBundle b gap den place →
    MeetsBundle b gap (replicate (length b.items.items) 1) (all_rounded_down den place)
rounded_meets b gap den place ok m =
    let n = length b.items.items in
    let unit : ℕ = 1 in
    let ones : List ℕ = replicate n unit in
    let one : (i : ℕ) → i < n → get_or ones i 0 ≡ unit = λ i l. get_or-replicate n i unit 0 l in
    let same : length place ≡ length den = m.places ∙ sym m.dens in
    let some : (i : ℕ) → i < n → 0 < slice_index den i = λ i l. All-get_or (λ d. 0 < d) den i 0 (omega (arith, l, m.dens)) m.positive in
    let down = down_at b gap den place m in
    record {
      dens = length-replicate n 1;
      places = length-all_rounded_down den place same ∙ m.dens;
      positive = All-replicate (λ d. 0 < d) n 1 (omega arith);
      limits = λ i l.
          let item = item_at b.items.items i in
          let whole = int_at (all_rounded_down den place) i in
          let low = rounded_low item.lo (int_at place i) whole (slice_index den i) (some i l) (m.limits i l).low (down i l) in
          let high = rounded_high item.hi (int_at place i) whole (slice_index den i) (some i l) (m.limits i l).high (down i l) in
          rw (one i l) (record { low = omega (arith, ints, low); high = omega (arith, ints, high) });
      rules = λ k d l.
          let r = slice_index_or b.rules.items k d in
          let ends = ends_within b k d ok l in
          let apart = rounded_gap (int_at place r.left) (int_at place r.right) (int_at (all_rounded_down den place) r.left) (int_at (all_rounded_down den place) r.right) (asked gap r)
          (slice_index den r.left) (slice_index den r.right) (some r.left ends.0) (some r.right ends.1) (down r.left ends.0) (down r.right ends.1) (m.rules k d l) in
          rw (one r.left ends.0, one r.right ends.1) (omega (arith, ints, apart));
    }

-- all lists of least fractions of a bundle and a gap have one rounding
pub one_rounding : (b : Bundle) (gap : ℤ) (den other_den : List ℕ) (place other : List ℤ) → IsBundle b → IsLeast b gap den place → IsLeast b gap other_den other →
    all_rounded_down den place ≡ all_rounded_down other_den other
one_rounding b gap den other_den place other ok one two =
    let here = rounded_meets b gap den place ok one.meets in
    let there = rounded_meets b gap other_den other ok two.meets in
    ext_get_or (pos 0) (all_rounded_down den place) (all_rounded_down other_den other) (here.places ∙ sym there.places) (λ i l.
    let within : i < length b.items.items = omega (arith, l, here.places) in
    one_whole (int_at place i) (int_at other i) (int_at (all_rounded_down den place) i) (int_at (all_rounded_down other_den other) i) (slice_index den i) (slice_index other_den i)
    (All-get_or (λ d. 0 < d) den i 0 (omega (arith, within, one.meets.dens)) one.meets.positive)
    (All-get_or (λ d. 0 < d) other_den i 0 (omega (arith, within, two.meets.dens)) two.meets.positive)
    (one_place b gap den other_den place other ok one two i (omega (arith, within, one.meets.places)))
    (down_at b gap den place one.meets i within) (down_at b gap other_den other two.meets i within))

-- positions that meet a bundle stand on the sheet
pub solution_on_sheet : (b : Bundle) (gap : ℤ) (s : Solution) → IsBundle b → MeetsBundle b gap s.den.items s.pos.items → SolutionIsOnSheet s
solution_on_sheet b gap s ok m = record {
  same = m.dens ∙ sym m.places;
  each = λ i l.
      let within : i < length b.items.items = omega (arith, l, m.places) in
      limits_on_sheet (item_at b.items.items i) (slice_index s.den.items i) (int_at s.pos.items i) (ok.items i no_item within)
      (All-get_or (λ d. 0 < d) s.den.items i 0 (omega (arith, within, m.dens)) m.positive) (m.limits i within);
}

-- a position on the sheet, rounded down, is a coordinate
pub rounded_coordinate : (num : ℤ) (den : ℕ) → FractionIsOnSheet den num → IsCoordinate (rounded_down num den)
rounded_coordinate num den on =
    let is = rounded_down_is num den on.positive in
    record {
      low = rounded_low (negsuc 1999999999) num (rounded_down num den) den on.positive on.low is;
      high = rounded_high (pos 2000000000) num (rounded_down num den) den on.positive on.high is;
    }

pub rounded_down_only : (num whole : ℤ) (den : ℕ) → 0 < den → IsRoundedDown num den whole ↔ (whole ≡ rounded_down num den)
rounded_down_only num whole den some = (
  λ is. one_whole num num whole (rounded_down num den) den den some some refl is (rounded_down_is num den some),
  λ e. subst (IsRoundedDown num den) (sym e) (rounded_down_is num den some),
)
