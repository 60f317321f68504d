-- One stop more is not there; in the end none is.
use Rattle.std.proofs.Common.{◌≢◌, All, ap, ◌∙◌, subst, FitsSigned, of_z, w64, rules}
use Rattle.std.proofs.lemmas.Int.{to_z-of_z}
use Rattle.std.proofs.lemmas.List.{take_all}
use Rattle.std.proofs.lemmas.List.Elements.{All-more}
use Rattle.line_lists.specs.declared.stop.Stop.{Stop}
use Rattle.exit_spread.proofs.propagate.crossing_along.Goals as goal

pub loop-stop-preserved : goal.loop-stop-preserved
loop-stop-preserved c =
    let fits : FitsSigned w64 c.args.along = search rules in
    simp to_z-of_z
    (All-more (λ (s : Stop). s.along ≢ c.args.along) c.args.stops.now c.loop-stop.stop-index c.stop-item.result c.loop-stop-test.true (simp to_z-of_z at c.loop-stop.invariant)
    (λ e. c.if-stop-along.false (ap (of_z w64) (ap (λ (s : Stop). s.along) c.stop-item.is ∙ e))))

pub returns-clause-none : goal.returns-clause-none
returns-clause-none c =
    let fits : FitsSigned w64 c.args.along = search rules in
    λ _. subst (All (λ (s : Stop). s.along ≢ c.args.along)) (take_all c.loop-stop.stop-index c.args.stops.now c.loop-stop-test.false) (simp to_z-of_z at c.loop-stop.invariant)
