-- A solid that the stub meets begins neither too far behind it nor beyond it.
use Rattle.std.proofs.Common.{ℤ, List, ◌+ℤ◌, ◌≤ℤ◌, ◌<ℤ◌, w64, to_z, of_z, sym, subst, arith}
use Rattle.std.specs.Prelude.{Contains}
use Rattle.std.specs.Int.{int_min}
use Rattle.std.proofs.lemmas.Int.{ints, clamps}
use Rattle.std.proofs.lemmas.List.Elements.{All-contains}
use Rattle.plane_geom.specs.declared.rect.Solid.{Solid}
use Rattle.plane_geom.specs.Point.{sheet_end, sheet_start}
use Rattle.search_problem.proofs.Sorting.{met_near, read_less}
use Rattle.search_problem.proofs.stubs.SortedSolids.near.Goals as goal

pub overflow_sub-min : goal.overflow_sub-min
overflow_sub-min c =
    let order = c.args.self.now.ordered in
    let pin = c.requires.pin.x in
    let port = c.requires.port.x in
    omega (arith, ints, clamps, order.low, order.high, pin.low, pin.high, port.low, port.high, c.min.ensures.value)

pub returns-clause-members : goal.returns-clause-members
returns-clause-members c = λ s has.
    subst (λ (xs : List Solid). Contains xs s) c.as_slice.ensures.value ((c.begun_before-before.ensures.members s).0 ((c.begun_beyond.ensures s).0 has).0).0

pub returns-clause-met : goal.returns-clause-met
returns-clause-met c = λ s has meets.
    let order = c.args.self.now.ordered in
    let pin = c.requires.pin.x in
    let port = c.requires.port.x in
    let wide = All-contains (λ (t : Solid). t.rect.right ≤ℤ (t.rect.left +ℤ c.args.self.now.widest)) c.args.self.now.solids.items s order.wide has in
    let near = met_near s c.args.self.now.widest c.args.choice.now.pin c.args.choice.now.port wide meets in
    let before : s.rect.left <ℤ to_z w64 (of_z w64 c.max.result) = omega (arith, ints, clamps, near.0, pin.low, pin.high, port.low, port.high, c.max.ensures.value) in
    let low : sheet_start ≤ℤ c.min.result = omega (arith, ints, clamps, pin.low, pin.high, port.low, port.high, c.min.ensures.value) in
    let high : c.min.result ≤ℤ sheet_end = omega (arith, ints, clamps, pin.low, pin.high, port.low, port.high, c.min.ensures.value) in
    let less : c.min.result ≤ℤ int_min c.args.choice.now.pin.x c.args.choice.now.port.x = omega (arith, ints, clamps, pin.low, pin.high, port.low, port.high, c.min.ensures.value) in
    let read = read_less c.min.result c.args.self.now.widest low high order.low order.high in
    let beyond = subst (λ (z : ℤ). z <ℤ s.rect.left) (sym read) (omega (arith, ints, near.1, less)) in
    (c.begun_beyond.ensures s).1 ((c.begun_before-before.ensures.members s).1 (subst (λ (xs : List Solid). Contains xs s) (sym c.as_slice.ensures.value) has, before), beyond)
