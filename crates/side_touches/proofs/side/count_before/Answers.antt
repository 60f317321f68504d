-- The first side that does not stand before the coordinate ends the search.
use Rattle.std.proofs.Common.{◌<ℤ◌, FitsSigned, arith, of_z, pos, rules, to_z, w64}
use Rattle.std.proofs.lemmas.Int.{ints, to_z-of_z}
use Rattle.std.proofs.lemmas.List.Elements.{All-more}
use Rattle.side_touches.specs.declared.side.Side.{Side}
use Rattle.side_touches.proofs.InOrder.{later}
use Rattle.side_touches.proofs.side.count_before.Goals as goal

pub loop-place-preserved : goal.loop-place-preserved
loop-place-preserved c =
    All-more (λ (s : Side). s.at <ℤ to_z w64 (of_z w64 c.args.at)) c.args.sides.now c.loop-place.place _ c.loop-place-test.true c.loop-place.invariant
    (c.is_before.ensures.before c.if-not-is_before.false)

pub returns-then-not-is_before-clause-rest : goal.returns-then-not-is_before-clause-rest
returns-then-not-is_before-clause-rest c = λ k d lt.
    let fits : FitsSigned w64 c.args.at = search rules in
    let read = to_z-of_z w64 c.args.at fits in
    let none : Side = record { at = pos 0; extent = record { lo = pos 0; hi = pos 0 } } in
    let rest = c.is_before.ensures.rest c.if-not-is_before.true in
    let more = later c.args.sides.now c.loop-place.place none c.requires c.loop-place-test.true k d lt in
    omega (arith, ints, read, rest, more)
