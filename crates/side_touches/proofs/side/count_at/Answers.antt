-- The first side that stands further ends the search.
use Rattle.std.proofs.Common.{◌≡◌, FitsSigned, arith, of_z, pos, rules, to_z, w64}
use Rattle.std.proofs.lemmas.Int.{ints, to_z-of_z}
use Rattle.std.proofs.lemmas.List.Elements.{All-more}
use Rattle.side_touches.specs.declared.side.Side.{Side}
use Rattle.side_touches.proofs.InOrder.{later}
use Rattle.side_touches.proofs.side.count_at.Goals as goal

pub loop-place-preserved : goal.loop-place-preserved
loop-place-preserved c =
    All-more (λ (s : Side). s.at ≡ to_z w64 (of_z w64 c.args.at)) c.args.sides.now c.loop-place.place _ c.loop-place-test.true c.loop-place.invariant
    (c.is_at.ensures.here c.if-not-is_at.false)

pub returns-then-not-is_at-clause-beyond : goal.returns-then-not-is_at-clause-beyond
returns-then-not-is_at-clause-beyond c = λ k d lt same.
    let fits : FitsSigned w64 c.args.at = search rules in
    let read = to_z-of_z w64 c.args.at fits in
    let none : Side = record { at = pos 0; extent = record { lo = pos 0; hi = pos 0 } } in
    let from = c.requires.from c.loop-place.place none c.loop-place-test.true in
    let more = later c.args.sides.now c.loop-place.place none c.requires.order c.loop-place-test.true k d lt in
    c.is_at.ensures.beyond c.if-not-is_at.true (omega (arith, ints, read, from, more, same))
