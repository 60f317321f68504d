-- What is said of a certificate of a scene.
use Rattle.std.specs.Prelude.{◌≡◌, ℕ, Bool, true, false, List, Result, Ok, Err}
use Rattle.std.specs.List.{AllZip}
use Rattle.scene_model.specs.Scene.{Scene, connectors}
use Rattle.proof_model.specs.declared.proof.Proof.{Proof}
use Rattle.proof_model.specs.Scenes.{FailsFirst, HoldsClaim, ProveScene}
use Rattle.proof_text.specs.Text.{IsText}
use Rattle.proof_text.specs.Fronts.{IsBadLine}
use Rattle.report_text.specs.Audits.{audit_line_line, audit_rule_line, audit_yes_line}
use Rattle.report_text.specs.Outcome.{Outcome, uncounted}
use Rattle.report_text.specs.declared.status.Status.{Status}
use Rattle.report_text.specs.declared.status.Status.TheVariants.{AuditNo, Done}
use Rattle.route_audit.specs.declared.fault.AuditFault.{AuditFault}
use Rattle.route_audit.specs.declared.fault.AuditFault.TheVariants.{No, Memory}

-- the bytes are the text of proofs that prove the scene, or of which a rule fails first; or no text, with a first bad line
pub data Audits (s : Scene) (bytes text : List ℕ) (proved : Bool) : Type 0 where
  proves : (proofs : List Proof) → IsText bytes proofs → ProveScene s proofs → text ≡ audit_yes_line → proved ≡ true → Audits s bytes text proved
  breaks_rule : (proofs : List Proof) (edge rule : ℕ) → IsText bytes proofs → FailsFirst s (connectors s) proofs edge rule → text ≡ audit_rule_line edge rule
      → proved ≡ false → Audits s bytes text proved
  is_no_text : (line : ℕ) → IsBadLine bytes line → text ≡ audit_line_line line → proved ≡ false → Audits s bytes text proved

-- the bytes are the text of proofs, and each claim of them is true of its connector
pub record HasTrueClaims (s : Scene) (bytes : List ℕ) : Type 0 where
  pub proofs : List Proof
  pub is_text : IsText bytes proofs
  pub claims : AllZip (HoldsClaim s) (connectors s) proofs

-- how an audit ends that says yes, or no
abbrev pub audit_status : Bool → Status
audit_status true = Done
audit_status false = AuditNo

-- the audit of the bytes, which says yes only where they claim what is true
pub record AuditsCertificate (s : Scene) (bytes : List ℕ) (o : Outcome) : Type 0 where
  pub text : List ℕ
  pub proved : Bool
  pub audits : Audits s bytes text proved
  pub claims : proved ≡ true → HasTrueClaims s bytes
  pub outcome : o ≡ uncounted (audit_status proved) text

-- the outcome of an audit with this answer, out of memory aside
abbrev pub Says : Result (Unit {0}) AuditFault → Outcome → Type 0
Says (Ok done) o = o ≡ uncounted Done audit_yes_line
Says (Err (No edge rule)) o = o ≡ uncounted AuditNo (audit_rule_line edge rule)
Says (Err Memory) o = ⊥

-- the law: of given bytes one thing is said
pub record IsSameAudit (text other : List ℕ) (proved other_proved : Bool) : Type 0 where
  pub same_text : text ≡ other
  pub same_verdict : proved ≡ other_proved

abbrev pub HaveOneAudit : Type 0
HaveOneAudit = (s : Scene) (bytes text other : List ℕ) (proved other_proved : Bool) → Audits s bytes text proved → Audits s bytes other other_proved
    → IsSameAudit text other proved other_proved
