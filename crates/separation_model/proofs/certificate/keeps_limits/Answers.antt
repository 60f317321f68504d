-- What is read of the lists is what the limits speak of.
use Rattle.std.proofs.Common.{◌↔◌, ◌<◌, List, pos, rules, subst, sym, refl, ◌∙◌, below_more, length, FitsSigned, to_z, of_z}
use Rattle.std.specs.Int.{w128}
use Rattle.std.proofs.lemmas.Bool.{false≢true}
use Rattle.std.proofs.lemmas.Int.{to_z-of_z}
use Rattle.std.proofs.lemmas.List.{get_or_read}
use Rattle.separation_model.specs.declared.bundle.Item.{Item}
use Rattle.separation_model.specs.Bundle.{IsItem, item_at, no_item}
use Rattle.separation_model.specs.Checked.{KeepsLimits, KeepsLimitsAt}
use Rattle.separation_model.proofs.Verifying.Conditions.{limits_here}
use Rattle.separation_model.proofs.certificate.keeps_limits.Goals as goal
use Rattle.separation_model.proofs.certificate.keeps_limits.Goals.{After-index-in-loop-i-2}

inside : (c : After-index-in-loop-i-2) → c.loop-i.i < length c.args.bundle.now.items.items
inside c = subst (λ (items : List Item). c.loop-i.i < length items) c.deref-item-items.ensures.value c.loop-i-test.true

limits_are : (c : After-index-in-loop-i-2) →
    KeepsLimits (item_at c.deref-item-items.result.now c.loop-i.i) c.index-den.result.now (to_z w128 (of_z w128 c.index.result.now)) (to_z w128 (of_z w128 c.index-in-loop-i.result.now)) (to_z w128 (of_z w128 c.index-in-loop-i-2.result.now))
    ↔ KeepsLimitsAt c.args.bundle.now c.args.solution.now c.loop-i.i
limits_are c =
    let s = c.args.solution.now in
    let i = c.loop-i.i in
    let here = inside c in
    let l : i < length s.den.items = subst (λ n. i < n) (sym c.requires.lengths.dens) here in
    let at_pos : i < length s.pos.items = subst (λ n. i < n) (sym c.requires.lengths.places) here in
    let at_low : i < length s.low.items = subst (λ n. i < n) (sym c.requires.lengths.lows) here in
    let at_high : i < length s.high.items = subst (λ n. i < n) (sym c.requires.lengths.highs) here in
    let place_fits : FitsSigned w128 c.index.result.now = search rules in
    let low_fits : FitsSigned w128 c.index-in-loop-i.result.now = search rules in
    let high_fits : FitsSigned w128 c.index-in-loop-i-2.result.now = search rules in
    limits_here c.args.bundle.now s c.deref-item-items.result.now i _ _ _ _ c.deref-item-items.ensures.value
    (get_or_read s.den.items i _ l c.index-den.ensures 0)
    (to_z-of_z w128 c.index.result.now place_fits ∙ get_or_read s.pos.items i _ at_pos c.index.ensures (pos 0))
    (to_z-of_z w128 c.index-in-loop-i.result.now low_fits ∙ get_or_read s.low.items i _ at_low c.index-in-loop-i.ensures (pos 0))
    (to_z-of_z w128 c.index-in-loop-i-2.result.now high_fits ∙ get_or_read s.high.items i _ at_high c.index-in-loop-i-2.ensures (pos 0))

pub keeps_limits-requires-clause-item : goal.keeps_limits-requires-clause-item
keeps_limits-requires-clause-item c =
    let here = inside (goal.at.keeps_limits-requires-clause-item c).After-index-in-loop-i-2 in
    subst (λ (items : List Item). IsItem (item_at items c.loop-i.i)) (sym c.deref-item-items.ensures.value) (c.requires.bundle.items c.loop-i.i no_item here)

pub returns-then-not-keeps_limits : goal.returns-then-not-keeps_limits
returns-then-not-keeps_limits c =
    let before = (goal.at.returns-then-not-keeps_limits c).After-index-in-loop-i-2 in (
      λ t. absurd (false≢true t),
      λ all. c.if-not-keeps_limits.ensures.1 ((limits_are before).1 (all c.loop-i.i (inside before))),
    )

pub loop-i-preserved : goal.loop-i-preserved
loop-i-preserved c = below_more _ _ c.loop-i.invariant ((limits_are (goal.at.loop-i-preserved c).After-index-in-loop-i-2).0 (c.if-not-keeps_limits.ensures.0 refl))
