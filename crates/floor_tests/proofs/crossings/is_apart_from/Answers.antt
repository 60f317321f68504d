-- Lines that overlap are of one whole line, and neither begins past the other.
use Rattle.std.proofs.Common.{arith}
use Rattle.std.proofs.lemmas.Int.{ints}
use Rattle.floor_tests.proofs.crossings.is_apart_from.Goals as goal

pub returns-then-differ : goal.returns-then-differ
returns-then-differ c = λ t o. c.differ.ensures c.if-differ.true o.way

pub returns-then-is_elsewhere : goal.returns-then-is_elsewhere
returns-then-is_elsewhere c = λ t o. c.is_elsewhere.ensures c.if-is_elsewhere.true o.at

pub returns-then-is_past : goal.returns-then-is_past
returns-then-is_past c = λ t o.
    let past = c.is_past.ensures c.if-is_past.true in
    let from = o.from in
    omega (arith, ints, past, from)

pub returns : goal.returns
returns c = λ t o.
    let past = c.is_past-2.ensures t in
    let to = o.to in
    omega (arith, ints, past, to)
