-- Without rules nothing pushes an item from its want.
use Rattle.std.proofs.Common.{◌≡◌, ℕ, ◌^◌, ◌<◌, ℤ, pos, ◌-ℤ◌, ◌*ℤ◌, unsigned_abs, [], length, map, replicate, slice_index, All, arith, ap, sym, subst, ◌∙◌, lit<, to_z-of_z}
use Rattle.std.proofs.lemmas.Int.{ints}
use Rattle.std.proofs.lemmas.List.{get_or-map, get_or-replicate, length-map, length-replicate}
use Rattle.std.proofs.lemmas.List.Elements.{All-replicate}
use Rattle.separation_model.specs.declared.bundle.Item.{Item}
use Rattle.separation_model.specs.declared.bundle.Bundle.{Bundle}
use Rattle.separation_model.specs.declared.bundle.Solution.{Solution}
use Rattle.separation_model.specs.Bundle.{IsBundle, int_at, item_at, no_item}
use Rattle.separation_model.specs.Certified.{IsAccepted, from_left, from_right}
use Rattle.separation_model.specs.Checked.{IsAtRest, IsMultiplier, KeepsLimitsAt}
use Rattle.separation_model.specs.Gap.{IsGap}
use Rattle.separation_model.proofs.Verifying.Accepted.{accepted}
use Rattle.separation_solve.proofs.rest.at_rest.Goals as goal

-- each item at its want, with multipliers of 0
record IsResting (b : Bundle) (s : Solution) : Type 0 where
  pub free : b.rules.items ≡ []
  pub dens : s.den.items ≡ replicate (length b.items.items) 1
  pub nums : s.pos.items ≡ map (λ (item : Item). item.want) b.items.items
  pub mults : s.mult.items ≡ []
  pub lows : s.low.items ≡ replicate (length b.items.items) (pos 0)
  pub highs : s.high.items ≡ replicate (length b.items.items) (pos 0)

-- the item at the index
record IsItemResting (b : Bundle) (s : Solution) (i : ℕ) : Type 0 where
  pub den : slice_index s.den.items i ≡ 1
  pub num : int_at s.pos.items i ≡ (item_at b.items.items i).want
  pub low : int_at s.low.items i ≡ pos 0
  pub high : int_at s.high.items i ≡ pos 0
  pub left : from_left i b.rules.items s.mult.items ≡ pos 0
  pub right : from_right i b.rules.items s.mult.items ≡ pos 0

item_resting : (b : Bundle) (s : Solution) (i : ℕ) → IsResting b s → i < length b.items.items → IsItemResting b s i
item_resting b s i rest h =
    let n = length b.items.items in
    record {
      den = ap (λ l. slice_index l i) rest.dens ∙ get_or-replicate n i 1 0 h;
      num = ap (λ l. int_at l i) rest.nums ∙ get_or-map (λ (item : Item). item.want) b.items.items i no_item (pos 0) h;
      low = ap (λ l. int_at l i) rest.lows ∙ get_or-replicate n i (pos 0) (pos 0) h;
      high = ap (λ l. int_at l i) rest.highs ∙ get_or-replicate n i (pos 0) (pos 0) h;
      left = ap (λ rs. from_left i rs s.mult.items) rest.free;
      right = ap (λ rs. from_right i rs s.mult.items) rest.free;
    }

keeps_limits : (b : Bundle) (s : Solution) (i : ℕ) → IsBundle b → IsResting b s → i < length b.items.items → KeepsLimitsAt b s i
keeps_limits b s i ok rest h =
    let item = item_at b.items.items i in
    let is = ok.items i no_item h in
    let at = item_resting b s i rest h in
    record {
      positive = omega (arith, at.den);
      within = record {
        low = omega (arith, ints, at.num, is.want_low, ap (λ (k : ℕ). item.lo *ℤ pos k) at.den);
        high = omega (arith, ints, at.num, is.want_high, ap (λ (k : ℕ). item.hi *ℤ pos k) at.den);
      };
      small = omega (arith, ints, ap unsigned_abs at.num, is.want_low, is.want_high, is.lo.low, is.hi.high, lit< {m = 2000000000} {n = 2 ^ 100} tt);
      tight = record { at_low = λ some. absurd (some at.low); at_high = λ some. absurd (some at.high) };
    }

is_at_rest : (b : Bundle) (s : Solution) (i : ℕ) → IsResting b s → i < length b.items.items → IsAtRest b s i
is_at_rest b s i rest h =
    let item = item_at b.items.items i in
    let at = item_resting b s i rest h in
    let still : int_at s.pos.items i -ℤ (pos (slice_index s.den.items i) *ℤ item.want) ≡ pos 0 = omega (arith, ints, at.num, ap (λ (k : ℕ). pos k *ℤ item.want) at.den) in
    record {
      small = omega (arith, ints, at.left, at.right, at.low, at.high);
      balanced = omega (arith, ints, at.left, at.right, at.low, at.high, ap (λ z. pos 2 *ℤ pos item.weight *ℤ z) still);
    }

no_multipliers : (n : ℕ) → All IsMultiplier (replicate n (pos 0))
no_multipliers n = All-replicate IsMultiplier n (pos 0) (record { sign = omega (arith, ints); small = omega (arith, ints) })

resting_accepted : (b : Bundle) (gap : ℤ) (s : Solution) → IsBundle b → IsGap b gap → s.gap ≡ gap → IsResting b s → IsAccepted b s
resting_accepted b gap s ok is same rest =
    let n = length b.items.items in
    accepted b s (omega (arith, ints, same, is.low)) (omega (arith, ints, same, is.not_above, is.is_widest.high))
    (record {
      dens = ap length rest.dens ∙ length-replicate n 1;
      places = ap length rest.nums ∙ length-map b.items.items (λ (item : Item). item.want);
      mults = ap length rest.mults ∙ sym (ap length rest.free);
      lows = ap length rest.lows ∙ length-replicate n (pos 0);
      highs = ap length rest.highs ∙ length-replicate n (pos 0);
    })
    (record {
      mults = subst (All IsMultiplier) (sym rest.mults) (no_multipliers 0);
      lows = subst (All IsMultiplier) (sym rest.lows) (no_multipliers n);
      highs = subst (All IsMultiplier) (sym rest.highs) (no_multipliers n);
    })
    (λ i h. keeps_limits b s i ok rest h)
    (λ j h. absurd (omega (arith, h, ap length rest.free)))
    (λ i h. is_at_rest b s i rest h)

pub returns-clause-accepted : goal.returns-clause-accepted
returns-clause-accepted c =
    let b = c.args.bundle.now in
    let all : c.len-count.result ≡ length b.items.items = omega (arith, c.len-count.ensures, b.items.ok) in
    resting_accepted b _ _ c.requires.bundle c.requires.gap (to_z-of_z c.ranges.gap) (record {
      free = c.requires.free;
      dens = c.in_ok-vec.ensures.items_if_clones_equal (λ x e. e) ∙ ap (λ k. replicate k 1) all;
      nums = c.in_ok-exact_wants_of.ensures ∙ ap (map (λ (item : Item). item.want)) c.deref.ensures.value;
      mults = c.new.ensures.items;
      lows = c.in_ok-vec-2.ensures.items_if_clones_equal (λ x e. e) ∙ ap (λ k. replicate k (pos 0)) all;
      highs = c.in_ok-vec-3.ensures.items_if_clones_equal (λ x e. e) ∙ ap (λ k. replicate k (pos 0)) all;
    })
