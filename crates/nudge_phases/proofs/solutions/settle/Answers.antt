-- What the solver finds for the widest gap is a solution.
use Rattle.std.proofs.Common.{◌≡◌, ℤ, Result, Ok, Err, sym, subst, rules, w64, FitsSigned}
use Rattle.std.specs.Prelude.{IfOk}
use Rattle.std.proofs.lemmas.Int.{to_z-of_z}
use Rattle.std.specs.declared.alloc.AllocError.{AllocError}
use Rattle.separation_model.specs.declared.bundle.Bundle.{Bundle}
use Rattle.separation_model.specs.declared.bundle.Solution.{Solution}
use Rattle.separation_model.specs.Certified.{IsAccepted}
use Rattle.separation_model.specs.Gap.{IsWidestGap}
use Rattle.separation_model.specs.Least.{IsLeast}
use Rattle.nudge_phases.specs.Phase.{IsSolutionOf}
use Rattle.nudge_phases.proofs.solutions.settle.Goals as goal

settled : (b : Bundle) (gap : ℤ) (r : Result Solution AllocError) → IsWidestGap b gap → IfOk r (λ s. s.gap ≡ gap) → IfOk r (IsAccepted b) →
    IfOk r (λ s. IsLeast b s.gap s.den.items s.pos.items) → IfOk r (IsSolutionOf b)
settled b gap (Ok s) widest same accepted least = record { gap = subst (IsWidestGap b) (sym same) widest; least = least; accepted = accepted }
settled b gap (Err e) widest same accepted least = tt

pub returns : goal.returns
returns c =
    let fits : FitsSigned w64 c.in_ok-gap.gap = search rules in
    let same = simp to_z-of_z at c.solve.ensures.gap in
    settled c.args.bundle.now c.in_ok-gap.gap c.solve.result c.in_ok-gap.ensures same c.solve.ensures.accepted c.solve.ensures.least
