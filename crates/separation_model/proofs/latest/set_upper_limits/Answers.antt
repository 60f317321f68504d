-- Each turn of the loop sets one place.
use Rattle.std.proofs.Common.{◌≡◌, ◌<◌, length, map, set, pos, arith, sym, ◌∙◌, length-set, get_or-set_same, get_or-set_other}
use Rattle.std.proofs.Math.ListN.{get_or-map}
use Rattle.std.proofs.lemmas.Int.{ints}
use Rattle.std.proofs.lemmas.List.{ext_get_or, length-map}
use borrow.Author.Count.{below_more}
use Rattle.separation_model.specs.declared.bundle.Item.{Item}
use Rattle.separation_model.specs.Bundle.{int_at, item_at, no_item}
use Rattle.separation_model.proofs.latest.set_upper_limits.Goals as goal

pub loop-index-preserved : goal.loop-index-preserved
loop-index-preserved c =
    let i = c.loop-index.index in
    let was = c.loop-index.invariant in
    let items = c.args.items.now in
    let places = c.loop-index.places in
    let within : i < length items = omega (arith, c.loop-index-test.true, c.requires.count) in
    let inside : i < length places = omega (arith, within, was.count, c.requires.count) in
    let hi = (c.requires.items i no_item within).hi in
    record {
      count = length-set places i _ ∙ was.count;
      done = below_more (λ k. int_at (set places i _) k ≡ (item_at items k).hi) i
          (λ k h. get_or-set_other places i k _ (pos 0) (λ q. absurd (omega arith)) ∙ was.done k h)
          (get_or-set_same places i _ (pos 0) inside ∙ omega (arith, ints, hi.low, hi.high));
    }

pub returns : goal.returns
returns c =
    let items = c.args.items.now in
    let places = c.loop-index.places in
    let was = c.loop-index.invariant in
    ext_get_or (pos 0) places (map (λ (item : Item). item.hi) items) (was.count ∙ c.requires.count ∙ sym (length-map items (λ (item : Item). item.hi)))
    (λ k h. was.done k (omega (arith, h, was.count, c.loop-index-test.false)) ∙ sym (get_or-map (λ (item : Item). item.hi) items k no_item))
