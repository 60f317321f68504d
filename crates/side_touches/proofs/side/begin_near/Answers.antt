-- No side before one that stands before the coordinate stands further.
use Rattle.std.proofs.Common.{ℕ, ◌≡◌, ◌+◌, ◌-◌, ◌≤ℤ◌, All, FitsSigned, arith, get_or, pos, rules, subst, take, w64}
use Rattle.std.proofs.lemmas.Int.{ints, to_z-of_z}
use Rattle.side_touches.specs.declared.side.Side.{Side}
use Rattle.side_touches.proofs.InOrder.{sooner}
use Rattle.side_touches.proofs.side.begin_near.Goals as goal

pub returns-then-is_before-clause-before : goal.returns-then-is_before-clause-before
returns-then-is_before-clause-before c = λ k d lt.
    let fits : FitsSigned w64 c.args.at = search rules in
    let read = to_z-of_z w64 c.args.at fits in
    let none : Side = record { at = pos 0; extent = record { lo = pos 0; hi = pos 0 } } in
    let xs = c.args.sides.now in
    let some = c.if-near-gt0.true in
    let within = c.if-near-sides.true in
    let before = c.is_before.ensures.before c.if-is_before.true in
    let whole : (c.args.near - 1) + 1 ≡ c.args.near = omega (arith, some) in
    let less = subst (λ (n : ℕ). All (λ (s : Side). s.at ≤ℤ (get_or xs (c.args.near - 1) none).at) (take n xs)) whole
    (sooner xs (c.args.near - 1) none c.requires (omega (arith, some, within))) k d lt in
    omega (arith, ints, read, before, less)
