-- Each step back from `at` takes one, and one more before the range.
use Rattle.std.proofs.Common.{arith}
use Rattle.std.proofs.lemmas.Int.{ints}
use Rattle.exit_rows.proofs.Orders.{gap_above}
use Rattle.exit_spread.proofs.Spreading.Turning.{gap_upto}
use Rattle.exit_spread.proofs.near.reach_within.Goals as goal

pub returns-then-from-high : goal.returns-then-from-high
returns-then-from-high c = λ z before near.
    let back = gap_above z c.args.at (omega (arith, ints, before)) in
    let beyond = gap_upto c.args.high z in
    omega (arith, ints, back, beyond, near, c.if-from-high.true)

pub returns-then-from-low : goal.returns-then-from-low
returns-then-from-low c = λ z before near.
    let back = gap_above z c.args.at (omega (arith, ints, before)) in
    omega (arith, ints, back, near)

pub returns : goal.returns
returns c = λ z before near.
    let back = gap_above z c.args.at (omega (arith, ints, before)) in
    let ahead = gap_upto z c.args.low in
    omega (arith, ints, back, ahead, near, c.if-from-low.false)
