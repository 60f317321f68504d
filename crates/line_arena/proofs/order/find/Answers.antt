-- A line that is there stands last of those that it does not stand before.
use Rattle.std.proofs.Common.{arith}
use Rattle.line_arena.proofs.LineOrder.InOrder.{last_upto}
use Rattle.line_arena.proofs.order.find.Goals as goal

pub returns-then-place-eq0-clause-absent : goal.returns-then-place-eq0-clause-absent
returns-then-place-eq0-clause-absent c = λ none id there.
    let point = c.count_upto-place.ensures.point in
    let at = last_upto c.args.lines.now c.requires c.args.line.now c.count_upto-place.result c.count_upto-place.ensures.bound point.0 point.1 id there in
    absurd (omega (arith, at, c.if-place-eq0.true))

pub returns-clause-absent : goal.returns-clause-absent
returns-clause-absent c = λ none id there.
    let point = c.count_upto-place.ensures.point in
    let at = last_upto c.args.lines.now c.requires c.args.line.now c.count_upto-place.result c.count_upto-place.ensures.bound point.0 point.1 id there in
    c.at_place.ensures.absent none id there (omega (arith, at))
