-- Between a gap that is met and one from which on none is; without rules the wanted gap is met.
use Rattle.std.proofs.Common.{◌≡◌, length, pos, arith, refl, to_z, of_z, length-take, length-append, length-drop}
use Rattle.std.specs.Int.{w64}
use Rattle.std.proofs.lemmas.Bool.Decides.{nat_tests, when_true, when_false}
use Rattle.separation_model.specs.Latest.{HasNoPositions, IsLatest}
use Rattle.std.proofs.lemmas.Int.{ints}
use Rattle.separation_model.proofs.Gaps.Widest.{widest_free, between_none, between_met, between_unmet, between_all}
use Rattle.separation_model.proofs.gap.widest_gap.Goals as goal

pub returns-then-is_empty : goal.returns-then-is_empty
returns-then-is_empty c =
    let b = c.args.bundle.now in
    let free : length b.rules.items ≡ 0 = grind (arith, nat_tests, c.if-is_empty.ensures, b.rules.ok.0) in
    widest_free b _ c.requires free (omega (arith, ints, c.requires.wanted_low, c.requires.wanted_high))

pub loop-met-init : goal.loop-met-init
loop-met-init c = record {
  between = between_none c.args.bundle.now (pos 0) _ c.requires refl (omega (arith, ints, c.requires.wanted_low, c.requires.wanted_high));
  count = omega (arith, c.in_ok-places.ensures.len);
}

pub loop-met-preserved-then-fill_latest : goal.loop-met-preserved-then-fill_latest
loop-met-preserved-then-fill_latest c =
    let inv = c.loop-met.invariant.between in
    let b = c.args.bundle.now in
    let half = c.between-middle.ensures in
    let middle = to_z w64 (of_z w64 c.between-middle.result) in
    let latest = when_true (IsLatest b middle _) (HasNoPositions b middle) c.if-fill_latest.true c.fill_latest.ensures.found in
    record {
      between = between_met b _ _ middle inv (omega (arith, ints, half.low, half.high, inv.low, inv.high, c.requires.wanted_high)) (omega (arith, ints, half.low, half.high, inv.low, inv.high, c.requires.wanted_high))
          (record { places = _; meets = latest.meets });
      count = simp (length-take, length-append, length-drop) (omega (arith, c.fill_latest.ensures.count, c.deref_mut.ensures.len, c.loop-met.places.ok, c.loop-met.invariant.count));
    }

pub loop-met-preserved : goal.loop-met-preserved
loop-met-preserved c =
    let inv = c.loop-met.invariant.between in
    let b = c.args.bundle.now in
    let half = c.between-middle.ensures in
    let middle = to_z w64 (of_z w64 c.between-middle.result) in
    record {
      between = between_unmet b _ _ middle inv (omega (arith, ints, half.low, half.high, inv.low, inv.high, c.requires.wanted_high)) (omega (arith, ints, half.low, half.high, inv.low, inv.high, c.requires.wanted_high))
          (when_false (IsLatest b middle _) (HasNoPositions b middle) c.if-fill_latest.false c.fill_latest.ensures.found);
      count = simp (length-take, length-append, length-drop) (omega (arith, c.fill_latest.ensures.count, c.deref_mut.ensures.len, c.loop-met.places.ok, c.loop-met.invariant.count));
    }

pub returns : goal.returns
returns c = let inv = c.loop-met.invariant.between in between_all c.args.bundle.now _ _ inv (omega (arith, ints, c.loop-met-test.false, inv.low, inv.apart, inv.high, c.requires.wanted_high))
