-- One solid more is no wider than the widest so far and itself.
use Rattle.std.proofs.Common.{ℤ, pos, ◌+◌, ◌+ℤ◌, ◌≤ℤ◌, FitsSigned, w64, to_z, take, sym, subst, arith, rules}
use Rattle.std.proofs.lemmas.Int.{ints, clamps, to_z-of_z}
use Rattle.std.proofs.lemmas.List.{take_all}
use Rattle.std.proofs.lemmas.List.Elements.{All-more, All-weaker}
use Rattle.plane_geom.specs.declared.rect.Solid.{Solid}
use Rattle.search_problem.specs.Stubs.{IsWidest}
use Rattle.search_problem.proofs.stubs.widest_of.Goals as goal

no_solid : Solid
no_solid = record { node = pos 0; rect = record { left = pos 0; top = pos 0; right = pos 0; bottom = pos 0 } }

pub loop-solid-preserved : goal.loop-solid-preserved
unfolding no_solid
loop-solid-preserved c =
    let xs = c.args.solids.now in
    let i = c.loop-solid.solid-index in
    let z : ℤ = c.max-widest.result in
    let fits : FitsSigned w64 z = search rules in
    let read = to_z-of_z w64 z fits in
    let on = c.requires i no_solid c.loop-solid-test.true in
    let self = c.max-widest.ensures.self_bound in
    let other = c.max-widest.ensures.other_bound in
    let value = c.max-widest.ensures.value in
    let low = c.loop-solid.invariant.low in
    let high = c.loop-solid.invariant.high in
    record {
      wide = subst (λ (v : ℤ). IsWidest v (take (i + 1) xs)) (sym read)
          (All-more (λ (s : Solid). s.rect.right ≤ℤ (s.rect.left +ℤ z)) xs i no_solid c.loop-solid-test.true
          (All-weaker (λ (s : Solid). s.rect.right ≤ℤ (s.rect.left +ℤ to_z w64 c.loop-solid.widest-bits)) (λ (s : Solid). s.rect.right ≤ℤ (s.rect.left +ℤ z))
          (λ s h. omega (arith, ints, other, h)) (take i xs) c.loop-solid.invariant.wide)
          (omega (arith, ints, self, on.left.low, on.left.high, on.right.low, on.right.high)));
      low = omega (arith, ints, read, other, low);
      high = omega (arith, ints, clamps, read, value, high, on.left.low, on.left.high, on.right.low, on.right.high);
    }

pub returns-clause-wide : goal.returns-clause-wide
returns-clause-wide c =
    subst (IsWidest (to_z w64 c.loop-solid.widest-bits)) (take_all c.loop-solid.solid-index c.args.solids.now c.loop-solid-test.false) c.loop-solid.invariant.wide
