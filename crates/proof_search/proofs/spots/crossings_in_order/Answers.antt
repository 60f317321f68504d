-- Line by line; of the vertical ones none is listed.
use Rattle.std.proofs.Common.{◌+◌, take, refl, sym, subst}
use Rattle.std.proofs.lemmas.Bool.{false≢true}
use Rattle.std.proofs.lemmas.List.{take_all}
use Rattle.proof_search.specs.Spots.{AreOfLines}
use Rattle.proof_search.proofs.RowsInOrder.Lines.{all_spots, line_is, no_spots, spots_before, spots_more, spots_past}
use Rattle.proof_search.proofs.spots.crossings_in_order.Goals as goal
use Rattle.proof_search.proofs.spots.crossings_in_order.Goals.{then-is_horizontal+in_ok-push_line, else-is_horizontal}

pub loop-line-init : goal.loop-line-init
loop-line-init c = no_spots c.args.arena.now c.new-spots.result.items c.new-spots.ensures.items

pub push_line-requires-clause-is : goal.push_line-requires-clause-is
push_line-requires-clause-is c =
    let all = c.lines_in_order-line-items in
    line_is c.args.arena.now c.laws.ensures.arena all.result.now all.ensures.ordered all.ensures.listed c.loop-line.line-index c.loop-line-item.result
    c.loop-line-test.true c.loop-line-item.is

pub push_line-requires-clause-before : goal.push_line-requires-clause-before
push_line-requires-clause-before c =
    let all = c.lines_in_order-line-items in
    spots_before c.args.arena.now c.laws.ensures.arena all.result.now all.ensures.ordered all.ensures.listed c.loop-line.line-index c.loop-line-item.result
    c.loop-line-test.true c.loop-line-item.is
    c.loop-line.spots.items c.loop-line.invariant (c.if-is_horizontal.ensures.0 refl)

pub loop-line-preserved : goal.loop-line-preserved
loop-line-preserved c =
    let all = c.lines_in_order-line-items in
    elim c.if-is_horizontal.branch as (λ _. AreOfLines c.args.arena.now (take (c.loop-line.line-index + 1) all.result.now) c.if-is_horizontal.spots.items) [
      | then-is_horizontal+in_ok-push_line w ↦ (
          subst (λ v. AreOfLines c.args.arena.now (take (c.loop-line.line-index + 1) all.result.now) v.items) (sym w.spots-is)
          (spots_more c.args.arena.now c.laws.ensures.arena all.result.now all.ensures.ordered all.ensures.listed c.loop-line.line-index c.loop-line-item.result
          c.loop-line-test.true c.loop-line-item.is
          c.loop-line.spots.items c.loop-line.invariant w.push_line.new.spots.items (w.if-is_horizontal.ensures.0 refl) w.in_ok-push_line.ensures))
      | else-is_horizontal w ↦ (
          subst (λ v. AreOfLines c.args.arena.now (take (c.loop-line.line-index + 1) all.result.now) v.items) (sym w.spots-is)
          (spots_past c.args.arena.now c.laws.ensures.arena all.result.now all.ensures.ordered all.ensures.listed c.loop-line.line-index c.loop-line-item.result
          c.loop-line-test.true c.loop-line-item.is
          c.loop-line.spots.items c.loop-line.invariant (λ across. false≢true (w.if-is_horizontal.ensures.1 across))))
    ]

pub returns : goal.returns
returns c =
    let all = c.lines_in_order-line-items in
    let a = c.args.arena.now in
    let whole = take_all c.loop-line.line-index all.result.now c.loop-line-test.false in
    all_spots a c.laws.ensures.arena all.result.now c.loop-line.spots.items (λ line id is. (all.ensures.listed line id).1 is)
    (subst (λ ls. AreOfLines a ls c.loop-line.spots.items) whole c.loop-line.invariant)
