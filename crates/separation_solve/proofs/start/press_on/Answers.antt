-- Each turn of the loop takes one rule: its right item stays, or is pressed on.
use Rattle.std.proofs.Common.{◌≡◌, ◌+◌, ℤ, ◌+ℤ◌, List, set, FitsSigned, arith, sym, subst, ◌∙◌}
use Rattle.std.proofs.lemmas.Int.{ints, to_z-of_z}
use mir.Syntax.{w64}
use Rattle.separation_model.specs.Bundle.{asked, int_at, rule_at}
use Rattle.separation_solve.proofs.Starting.Pressing.{IsLeastPlace, IsPressed, least_of, pressed_kept, pressed_on, rule_keeps}
use Rattle.separation_model.proofs.Gaps.Bounds.{asked_within}
use Rattle.separation_solve.proofs.start.press_on.Goals as goal
use Rattle.separation_solve.proofs.start.press_on.Goals.{After-asked, then-places-right, else-places-right}

-- what is known of the rule that is taken
record IsTaken (c : After-asked) : Type 0 where
  so : IsPressed c.args.gap c.args.places.now c.args.by_left.now c.loop-index.index c.loop-index.places
  is : IsLeastPlace c.args.places.now c.loop-index.places (rule_at c.args.by_left.now c.loop-index.index) c.args.gap
      (int_at c.loop-index.places (rule_at c.args.by_left.now c.loop-index.index).left +ℤ asked c.args.gap (rule_at c.args.by_left.now c.loop-index.index))
  asked_is : c.asked.result ≡ asked c.args.gap (rule_at c.args.by_left.now c.loop-index.index)
  place : FitsSigned w64 (int_at c.loop-index.places (rule_at c.args.by_left.now c.loop-index.index).left)
  add : FitsSigned w64 (asked c.args.gap (rule_at c.args.by_left.now c.loop-index.index))
  sum : FitsSigned w64 (int_at c.loop-index.places (rule_at c.args.by_left.now c.loop-index.index).left +ℤ asked c.args.gap (rule_at c.args.by_left.now c.loop-index.index))

taken : (c : After-asked) → IsTaken c
taken c =
    let gap : FitsSigned w64 c.args.gap = c.ranges.gap in
    let q = c.requires in
    let old = c.args.places.now in
    let rules = c.args.by_left.now in
    let pressed : IsPressed c.args.gap old rules c.loop-index.index c.loop-index.places = simp to_z-of_z at c.loop-index.invariant in
    let least = least_of c.args.gap old rules c.loop-index.index c.loop-index.places pressed c.loop-index-test.true q.rules q.gap.low q.gap.high q.few q.on_sheet in
    let bound = asked_within c.args.gap (rule_at rules c.loop-index.index) q.gap.low q.gap.high in
    record {
      so = pressed;
      is = least;
      asked_is = c.asked.ensures ∙ simp to_z-of_z;
      place = omega (arith, ints, least.low, least.high);
      add = omega (arith, ints, bound.0, bound.1);
      sum = omega (arith, ints, least.low, least.high, bound.0, bound.1);
    }

pub overflow_add-least : goal.overflow_add-least
overflow_add-least c =
    let t = taken (goal.at.overflow_add-least c).After-asked in
    let place = t.place in
    let add = t.add in
    rw t.asked_is (simp to_z-of_z t.sum)

pub loop-index-preserved : goal.loop-index-preserved
loop-index-preserved c =
    let gap : FitsSigned w64 c.args.gap = c.ranges.gap in
    let q = c.requires in
    let old = c.args.places.now in
    let rules = c.args.by_left.now in
    let rule = rule_at rules c.loop-index.index in
    let t = taken (goal.at.loop-index-preserved c).After-asked in
    let so = t.so in
    let is = t.is in
    let asked_is = t.asked_is in
    let place : FitsSigned w64 (int_at c.loop-index.places rule.left) = t.place in
    let add : FitsSigned w64 (asked c.args.gap rule) = t.add in
    let sum : FitsSigned w64 (int_at c.loop-index.places rule.left +ℤ asked c.args.gap rule) = t.sum in
    let right : FitsSigned w64 (int_at c.loop-index.places rule.right) = omega (arith, ints, is.right_low, is.right_high) in
    let motive = λ (p : List ℤ). IsPressed c.args.gap old rules (c.loop-index.index + 1) p in
    elim c.if-places-right.branch [
      | then-places-right w ↦
          let test = rw asked_is at w.if-places-right.true in
          let less = simp to_z-of_z at test in
          let set_is : c.if-places-right.places ≡ set c.loop-index.places rule.right (int_at c.loop-index.places rule.left +ℤ asked c.args.gap rule) = w.places-is ∙ rw asked_is (simp to_z-of_z) in
          simp to_z-of_z (subst motive (sym set_is) (pressed_on c.args.gap old rules c.loop-index.index c.loop-index.places (int_at c.loop-index.places rule.left +ℤ asked c.args.gap rule)
          so c.loop-index-test.true q.rules q.sorted is (omega (arith, ints, less))))
      | else-places-right w ↦
          let test = rw asked_is at w.if-places-right.false in
          let more = simp to_z-of_z at test in
          simp to_z-of_z (subst motive (sym w.places-is) (pressed_kept c.args.gap old rules c.loop-index.index c.loop-index.places so (omega (arith, ints, more))))
    ]

pub returns-clause-keeps : goal.returns-clause-keeps
returns-clause-keeps c =
    let gap : FitsSigned w64 c.args.gap = c.ranges.gap in
    let so : IsPressed c.args.gap c.args.places.now c.args.by_left.now c.loop-index.index c.loop-index.places = simp to_z-of_z at c.loop-index.invariant in
    λ k d h. rule_keeps c.args.gap c.loop-index.places c.args.by_left.now k d h (so.keeps k (omega (arith, h, c.loop-index-test.false)))
