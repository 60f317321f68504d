-- What is said of proofs that were read, and of bytes that are none.
use Rattle.std.proofs.Common.{subst, sym}
use Rattle.std.proofs.lemmas.Result.{IfOk-weaker}
use Rattle.proof_text.specs.Text.{IsText}
use Rattle.form_certificate.proofs.OneAnswer.{audit_said, bad_said}
use Rattle.form_certificate.proofs.auditing.audit_certificate.Goals as goal

pub returns-in-Ok : goal.returns-in-Ok
returns-in-Ok c =
    let bytes = c.args.certificate.now in
    let is = subst (IsText bytes) (sym c.deref.ensures.value) c.in-Ok.ensures.text in
    IfOk-weaker c.answer.result _ _ (λ o said. audit_said c.args.scene.now bytes o c.deref.result.now c.audit_proofs.result is c.audit_proofs.ensures.audited c.audit_proofs.ensures.claims said) c.answer.ensures

pub returns-in-Err-Line : goal.returns-in-Err-Line
returns-in-Err-Line c =
    let bad = rw c.in-Err-Line.field-0-is at c.in-Err-Line.ensures.fault in
    IfOk-weaker c.no_certificate.result _ _ (λ o said. bad_said c.args.scene.now c.args.certificate.now o c.in-Err-Line.line bad said) c.no_certificate.ensures
