-- Two linked runs of an edge are in one of two fours.
use Rattle.std.proofs.Common.{◌<◌, length, arith, subst, sym, w64, FitsSigned}
use Rattle.std.proofs.lemmas.Int.{to_z-of_z}
use Rattle.channel_bundles.specs.Groups.{Meet, span_at}
use Rattle.channel_bundles.specs.declared.groups.By.TheVariants.{Fours, LaterFours}
use Rattle.channel_bundles.proofs.Grouping.{in_a_four}
use Rattle.channel_bundles.proofs.groups.in_fours.Goals as goal

pub returns-clause-together : goal.returns-clause-together
returns-clause-together c =
    let fits : FitsSigned w64 c.args.nudge = c.ranges.nudge in
    let members = c.args.members.now in
    let edges = simp to_z-of_z at c.in_ok-edges.ensures.together in
    let early = c.in_ok-early.ensures.together in
    let late = c.in_ok-late.ensures.together in
    λ i j l same.
    let g : j < length members = l.within in
    let h : i < length members = omega (arith, l.forward, g) in
    let together = edges i j l same in
    in_a_four c.args.nudge members c.in_ok-edges.edges.items _ _ i j l same together
    (λ met. early i j h g (subst (λ xs. Meet (span_at Fours c.args.nudge members xs i) (span_at Fours c.args.nudge members xs j)) (sym c.deref.ensures.value) met))
    (λ met. late i j h g (subst (λ xs. Meet (span_at LaterFours c.args.nudge members xs i) (span_at LaterFours c.args.nudge members xs j)) (sym c.deref-2.ensures.value) met))
