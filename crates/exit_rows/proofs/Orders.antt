-- What is ahead along a line, and its order.
use Rattle.std.proofs.Common.{◌≡◌, ◌≢◌, ℕ, w64, of_z, to_z, ◌+◌, ◌<◌, ℤ, pos, ◌-ℤ◌, ◌≤ℤ◌, true, false, refl, sym, ap, ◌∙◌, arith}
use Rattle.std.proofs.Math.IntN.{negsuc}
use Rattle.std.specs.Cmp.{IsTotalOrder, nat_cmp_is}
use Rattle.std.specs.Int.{int_gap}
use Rattle.std.specs.declared.cmp.Ordering.{Ordering}
use Rattle.std.specs.declared.cmp.Ordering.TheVariants.{Less, Equal, Greater}
use Rattle.std.specs.Ordering.{is_gt, is_lt, nat_cmp, int_cmp, ordering_reverse, ordering_then}
use Rattle.std.proofs.lemmas.Cmp.{int_cmp_total, nat_cmp_total, on_total, ranked, then_total, tied_itself, upto}
use Rattle.std.proofs.lemmas.Int.{ints}
use Rattle.plane_geom.specs.Point.{IsCoordinate}
use Rattle.move_model.specs.declared.ahead.Ahead.{Ahead}
use Rattle.move_model.specs.Ahead.{ahead_cmp, with_steps}
use Rattle.exit_rows.specs.declared.exit.Kept.{Kept}
use Rattle.exit_rows.specs.Exits.{ahead_at}

-- the order of what is ahead is total
pub ahead_total : IsTotalOrder ahead_cmp
ahead_total =
    then_total (on_total (λ (v : Ahead). v.cost) nat_cmp_total)
    (then_total (on_total (λ (v : Ahead). v.runs) nat_cmp_total) (on_total (λ (v : Ahead). v.lean) int_cmp_total))

gt_false : (o : Ordering) → o ≢ Greater → is_gt o ≡ false
gt_false Less h = refl
gt_false Equal h = refl
gt_false Greater h = absurd (h refl)

not_gt : (o : Ordering) → is_gt o ≡ false → o ≢ Greater
not_gt Less h = λ (e : Less ≡ Greater). cc
not_gt Equal h = λ (e : Equal ≡ Greater). cc
not_gt Greater h = λ e. absurd (let wrong : true ≡ false = h in cc)

-- what is no greater than what is no greater than a third is no greater than the third
pub no_greater_both : (u v w : Ahead) → ahead_cmp u v ≢ Greater → ahead_cmp v w ≢ Greater → ahead_cmp u w ≢ Greater
no_greater_both u v w h k = not_gt (ahead_cmp u w) (upto ahead_total u v w (gt_false (ahead_cmp u v) h) (gt_false (ahead_cmp v w) k))

-- nothing is greater than itself
pub not_greater : (v : Ahead) → ahead_cmp v v ≢ Greater
not_greater v = λ (e : ahead_cmp v v ≡ Greater). let same = tied_itself ahead_total v in let wrong : Equal ≡ Greater = sym same ∙ e in cc

lt_less : (o : Ordering) → is_lt o ≡ true → o ≡ Less
lt_less Less h = refl
lt_less Equal h = absurd (let wrong : false ≡ true = h in cc)
lt_less Greater h = absurd (let wrong : false ≡ true = h in cc)

-- the test for less, and what it leaves
pub tested_less : (v w : Ahead) → is_lt (ahead_cmp v w) ≡ true → ahead_cmp v w ≡ Less
tested_less v w h = lt_less (ahead_cmp v w) h

pub less_no_greater : (v w : Ahead) → ahead_cmp v w ≡ Less → ahead_cmp v w ≢ Greater
less_no_greater v w h = λ (e : ahead_cmp v w ≡ Greater). let wrong : Less ≡ Greater = sym h ∙ e in cc

pub tested_no_greater : (v w : Ahead) → is_lt (ahead_cmp v w) ≡ false → ahead_cmp w v ≢ Greater
tested_no_greater v w h = by_order (ahead_cmp v w) refl h
  where
    by_order : (o : Ordering) → ahead_cmp v w ≡ o → is_lt o ≡ false → ahead_cmp w v ≢ Greater
    by_order Less e k = absurd (let wrong : true ≡ false = k in cc)
    by_order Equal e k = λ (f : ahead_cmp w v ≡ Greater). let back = ahead_total.antisymm w v ∙ ap ordering_reverse e in let wrong : Equal ≡ Greater = sym back ∙ f in cc
    by_order Greater e k = λ (f : ahead_cmp w v ≡ Greater). let back = ahead_total.antisymm w v ∙ ap ordering_reverse e in let wrong : Less ≡ Greater = sym back ∙ f in cc

-- what is not no greater is more
pub more_than : (w v : Ahead) → (ahead_cmp w v ≢ Greater → ⊥) → ahead_cmp v w ≡ Less
more_than w v h = by_order (ahead_cmp w v) refl
  where
    by_order : (o : Ordering) → ahead_cmp w v ≡ o → ahead_cmp v w ≡ Less
    by_order Less e = absurd (h (less_no_greater w v e))
    by_order Equal e = absurd (h (λ (f : ahead_cmp w v ≡ Greater). let wrong : Equal ≡ Greater = sym e ∙ f in cc))
    by_order Greater e = ahead_total.antisymm v w ∙ ap ordering_reverse e

nat_shifted : (n a b : ℕ) → nat_cmp (a + n) (b + n) ≡ nat_cmp a b
nat_shifted n a b = sym (by_order (nat_cmp a b) refl)
  where
    by_order : (o : Ordering) → o ≡ nat_cmp a b → nat_cmp a b ≡ nat_cmp (a + n) (b + n)
    by_order Less h = sym h ∙ nat_cmp_is (a + n) (b + n) Less (let l : a < b = ranked a b Less h in omega (arith, l))
    by_order Equal h = sym h ∙ nat_cmp_is (a + n) (b + n) Equal (let l : a ≡ b = ranked a b Equal h in omega (arith, l))
    by_order Greater h = sym h ∙ nat_cmp_is (a + n) (b + n) Greater (let l : b < a = ranked a b Greater h in omega (arith, l))

-- as many more steps straight on keep the order
pub steps_order : (n : ℕ) (v w : Ahead) → ahead_cmp (with_steps n v) (with_steps n w) ≡ ahead_cmp v w
steps_order n v w = ap (λ o. ordering_then o (ordering_then (nat_cmp v.runs w.runs) (int_cmp v.lean w.lean))) (nat_shifted n v.cost w.cost)

-- the gap to a number that is not below is the difference
pub gap_above : (a b : ℤ) → a ≤ℤ b → pos (int_gap a b) ≡ b -ℤ a
gap_above (pos a) (pos b) h = omega (arith, ints, h)
gap_above (pos a) (negsuc b) h = omega (arith, ints, h)
gap_above (negsuc a) (pos b) h = omega (arith, ints, h)
gap_above (negsuc a) (negsuc b) h = omega (arith, ints, h)

-- what is ahead further back is what is ahead here, after the steps between
pub ahead_behind : (e : Kept) (y z : ℤ) → y ≤ℤ z → z ≤ℤ e.at → ahead_at e y ≡ with_steps (int_gap y z) (ahead_at e z)
ahead_behind e y z h k =
    let all = gap_above y e.at (omega (arith, ints, h, k)) in
    let front = gap_above y z h in
    let back = gap_above z e.at k in
    let cost : e.ahead.cost + int_gap y e.at ≡ e.ahead.cost + int_gap z e.at + int_gap y z = omega (arith, ints, all, front, back) in
    λ i. record { cost = cost i; runs = e.ahead.runs; lean = e.ahead.lean }

-- at the exit itself it is what is ahead of the exit
pub ahead_here : (e : Kept) (z : ℤ) → z ≡ e.at → ahead_at e z ≡ e.ahead
ahead_here e z h =
    let none = gap_above z e.at (omega (arith, ints, h)) in
    let cost : e.ahead.cost + int_gap z e.at ≡ e.ahead.cost = omega (arith, ints, none, h) in
    λ i. record { cost = cost i; runs = e.ahead.runs; lean = e.ahead.lean }

-- a coordinate is the same as a machine number
pub signed : (z : ℤ) → IsCoordinate z → to_z w64 (of_z w64 z) ≡ z
signed z h = omega (arith, ints, h.low, h.high)
