-- Each turn of the loop takes one rule: its left item stays, moves, or shows that nothing meets the bundle.
use Rattle.std.proofs.Common.{ℕ, ℤ, List, ◌≡◌, ◌-◌, ◌-ℤ◌, ◌∙◌, arith, ap, length-set, map, subst, to_z, of_z}
use Rattle.std.specs.Int.{w64}
use Rattle.std.proofs.lemmas.Int.{ints, to_z-of_z}
use Rattle.std.proofs.lemmas.List.{get_or_read}
use Rattle.separation_model.specs.declared.bundle.Item.{Item}
use Rattle.separation_model.specs.declared.bundle.Rule.{Rule}
use Rattle.separation_model.specs.Bundle.{asked, rule_at, int_at, item_at, no_item}
use Rattle.separation_model.specs.Latest.{IsLatest, HasNoPositions}
use Rattle.separation_model.proofs.Gaps.Bounds.{IsBound, IsBoundStep, IsByLeft, bound_step, bound_none, no_room, bound_kept, bound_moved, bound_all}
use Rattle.separation_model.proofs.latest.fill_latest.Goals as goal
use Rattle.separation_model.proofs.latest.fill_latest.Goals.{In-loop-j, After-asked, After-index}

-- the gap, as the code reads it
abbrev gap_read : ℤ → ℤ
gap_read gap = to_z w64 (of_z w64 gap)

-- what is known of the rule that is taken
step : (c : In-loop-j) → IsBoundStep c.args.bundle.now (gap_read c.args.gap) c.args.by_left.now c.loop-j.j c.loop-j.places
step c =
    bound_step c.args.bundle.now (gap_read c.args.gap) c.args.by_left.now c.loop-j.j c.loop-j.places
    c.requires.bundle c.requires.same c.requires.sorted (omega arith) (omega arith) (omega (arith, ints)) (omega (arith, ints)) c.loop-j.invariant.bound

-- the rule that is taken
abbrev taken : List Rule → ℕ → Rule
taken rules j = rule_at rules (j - 1)

-- where its left item may stand at most
bound_is : (c : After-asked) → let rule = taken c.args.by_left.now c.loop-j.j in
    to_z w64 (of_z w64 (to_z w64 (of_z w64 (int_at c.loop-j.places rule.right)) -ℤ to_z w64 (of_z w64 c.asked.result))) ≡ int_at c.loop-j.places rule.right -ℤ asked (gap_read c.args.gap) rule
bound_is c =
    let is = step (goal.at.After-asked c).In-loop-j in
    omega (arith, ints, c.asked.ensures, is.place.low, is.place.high, is.asked_low, is.asked_high)

-- its lower limit
lo_is : (c : After-index) → c.index.result.now.lo ≡ (item_at c.args.bundle.now.items.items (taken c.args.by_left.now c.loop-j.j).left).lo
lo_is c =
    let is = step (goal.at.After-index c).In-loop-j in
    ap (λ (it : Item). it.lo) (get_or_read c.args.bundle.now.items.items (taken c.args.by_left.now c.loop-j.j).left c.index.result.now is.item c.index.ensures no_item)

pub loop-j-init : goal.loop-j-init
loop-j-init c = record {
  bound = bound_none c.args.bundle.now (gap_read c.args.gap) c.args.by_left.now c.set_upper_limits.new.places c.requires.bundle (c.set_upper_limits.ensures ∙ ap (map (λ (item : Item). item.hi)) c.deref.ensures.value);
  count = omega arith;
}

pub overflow_cast-left : goal.overflow_cast-left
overflow_cast-left c = record { fits = omega (arith, (step (goal.at.overflow_cast-left c).In-loop-j).item, c.requires.bundle.few) }

pub overflow_cast-bound : goal.overflow_cast-bound
overflow_cast-bound c = record { fits = (step (goal.at.overflow_cast-bound c).In-loop-j).fits }

pub offset_bounds-places-rule : goal.offset_bounds-places-rule
offset_bounds-places-rule c = record { fits = omega (arith, (step (goal.at.offset_bounds-places-rule c).In-loop-j).right, c.loop-j.invariant.bound.len, c.requires.bundle.few) }

pub slice_copy_out-bound : goal.slice_copy_out-bound
slice_copy_out-bound c = (step (goal.at.slice_copy_out-bound c).In-loop-j).right

pub overflow_sub-bound : goal.overflow_sub-bound
overflow_sub-bound c =
    let is = step (goal.at.overflow_sub-bound c).In-loop-j in
    omega (arith, ints, c.asked.ensures, is.place.low, is.place.high, is.asked_low, is.asked_high)

pub index-requires : goal.index-requires
index-requires c = omega (arith, (step (goal.at.index-requires c).In-loop-j).item, c.args.bundle.now.items.ok)

pub returns-then-bound-index-clause-found : goal.returns-then-bound-index-clause-found
returns-then-bound-index-clause-found c =
    let here = goal.at.returns-then-bound-index-clause-found c in
    let is = step here.In-loop-j in
    subst (HasNoPositions c.args.bundle.now) (to_z-of_z w64 c.args.gap c.ranges.gap)
    (no_room c.args.bundle.now (gap_read c.args.gap) c.args.by_left.now (c.loop-j.j - 1) c.loop-j.places c.requires.bundle is.by_left is.before is.bound
    (omega (arith, ints, bound_is here.After-asked, lo_is here.After-index, is.lo.low, is.lo.high, c.if-bound-index.true)))

pub offset_bounds-places-left : goal.offset_bounds-places-left
offset_bounds-places-left c = record { fits = omega (arith, (step (goal.at.offset_bounds-places-left c).In-loop-j).item, c.requires.bundle.few) }

pub slice_copy_out-place : goal.slice_copy_out-place
slice_copy_out-place c = (step (goal.at.slice_copy_out-place c).In-loop-j).left

pub offset_bounds-places-left-then-bound-place : goal.offset_bounds-places-left-then-bound-place
offset_bounds-places-left-then-bound-place c = record { fits = omega (arith, (step (goal.at.offset_bounds-places-left-then-bound-place c).In-loop-j).item, c.requires.bundle.few) }

pub bounds-places-left : goal.bounds-places-left
bounds-places-left c = (step (goal.at.bounds-places-left c).In-loop-j).left

pub loop-j-preserved-then-bound-place : goal.loop-j-preserved-then-bound-place
loop-j-preserved-then-bound-place c =
    let here = goal.at.loop-j-preserved-then-bound-place c in
    let is = step here.In-loop-j in
    let bound = bound_is here.After-asked in
    record {
      bound = bound_moved c.args.bundle.now (gap_read c.args.gap) c.args.by_left.now (c.loop-j.j - 1) c.loop-j.places _ c.requires.bundle is.by_left is.before is.bound bound
          (omega (arith, ints, bound, lo_is here.After-index, is.lo.low, is.lo.high, c.if-bound-index.false))
          (omega (arith, ints, bound, is.left_place.low, is.left_place.high, c.if-bound-place.true));
      count = length-set c.loop-j.places _ _ ∙ c.loop-j.invariant.count;
    }

pub loop-j-preserved : goal.loop-j-preserved
loop-j-preserved c =
    let here = goal.at.loop-j-preserved c in
    let is = step here.In-loop-j in
    record {
      bound = bound_kept c.args.bundle.now (gap_read c.args.gap) c.args.by_left.now (c.loop-j.j - 1) c.loop-j.places is.bound
          (omega (arith, ints, bound_is here.After-asked, is.left_place.low, is.left_place.high, c.if-bound-place.false));
      count = c.loop-j.invariant.count;
    }

pub returns-clause-found : goal.returns-clause-found
returns-clause-found c =
    let b = c.args.bundle.now in
    let rs = c.args.by_left.now in
    let g = gap_read c.args.gap in
    let places = c.loop-j.places in
    let by : IsByLeft b rs = record { same = c.requires.same; sorted = c.requires.sorted } in
    let n : c.loop-j.j ≡ 0 = omega arith in
    subst (λ g. IsLatest b g places) (to_z-of_z w64 c.args.gap c.ranges.gap) (bound_all b g rs places c.requires.bundle by (subst (λ k. IsBound b g rs k places) n c.loop-j.invariant.bound))
