-- What is said of the results is the outcome.
use Rattle.std.proofs.Common.{subst, sym}
use Rattle.std.specs.List.{AllZip}
use Rattle.std.proofs.lemmas.Result.{IfOk-weaker}
use Rattle.gml_text.specs.View.{tree}
use Rattle.form_check.specs.Checks.{IsFinding}
use Rattle.form_check.proofs.Findings.{outcome_found}
use Rattle.form_check.proofs.checking.check_lines.Goals as goal

pub returns-in-Ok : goal.returns-in-Ok
returns-in-Ok c =
    let t = tree c.args.doc.now in
    let s = c.args.scene.now in
    let found = subst (AllZip (IsFinding t s) s.edges) (sym c.deref.ensures.value) c.in-Ok.ensures.ok in
    IfOk-weaker c.outcome_of.result _ _ (λ o said. outcome_found t s c.deref.result.now o found said) c.outcome_of.ensures
