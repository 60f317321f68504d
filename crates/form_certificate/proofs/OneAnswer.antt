-- A scene has one certificate, and of given bytes an audit says one thing.
use Rattle.std.proofs.Common.{◌≡◌, ℕ, Bool, List, [], ◌∷◌, Some, Result, Ok, Err, refl, sym, ap, subst, ◌∙◌}
use Rattle.std.specs.Prelude.{true, false, OnOk}
use Rattle.std.specs.List.{AllZip}
use Rattle.std.proofs.lemmas.Bool.{false≢true}
use Rattle.std.proofs.lemmas.Option.{same_Some}
use Rattle.plane_geom.specs.declared.rect.Solid.{Solid}
use Rattle.plane_geom.specs.declared.floor.Floor.{Floor}
use Rattle.walk_model.specs.declared.task.Task.{Task}
use Rattle.walk_model.specs.Answers.{HasOneAnswer}
use Rattle.scene_model.specs.declared.edge.Edge.{Edge}
use Rattle.scene_model.specs.Scene.{Scene, connectors}
use Rattle.scene_model.specs.Routing.{floor_of, solids, task_of}
use Rattle.proof_model.specs.declared.proof.Claim.{Claim}
use Rattle.proof_model.specs.declared.proof.Claim.TheVariants.{Cost, Cut}
use Rattle.proof_model.specs.declared.proof.LabelRow.{LabelRow}
use Rattle.proof_model.specs.declared.proof.Proof.{Proof}
use Rattle.proof_model.specs.LeastLabels.{AreLeastLabels, IsLeastProof, IsRightClaim}
use Rattle.proof_model.specs.Scenes.{FailsFirst, HoldsClaim, ProveScene}
use Rattle.proof_text.specs.Text.{IsText, proofs_text}
use Rattle.proof_text.specs.Fronts.{IsBadLine}
use Rattle.report_text.specs.Audits.{audit_line_line, audit_rule_line, audit_yes_line}
use Rattle.report_text.specs.Outcome.{Outcome, uncounted}
use Rattle.report_text.specs.declared.status.Status.TheVariants.{AuditNo}
use Rattle.route_audit.specs.declared.fault.AuditFault.{AuditFault}
use Rattle.route_audit.specs.declared.fault.AuditFault.TheVariants.{No, Memory}
use Rattle.route_audit.specs.Audits.{IsAudited}
use Rattle.form_certificate.specs.Proving.{HaveOneCertificate}
use Rattle.form_certificate.specs.Auditing.{Audits, AuditsCertificate, HaveOneAudit, Says}
use Rattle.form_certificate.specs.Auditing.Audits.{proves, breaks_rule, is_no_text}

-- ---- certificates

one_claim : (ss : List Solid) (task : Task) → HasOneAnswer ss task → (c d : Claim) → IsRightClaim ss task c → IsRightClaim ss task d → c ≡ d
one_claim ss task law (Cost cost points) (Cost other line) a b =
    let same = same_Some a.1 b.1 (law (Some a.1) (Some b.1) (a.0, a.2, a.3) (b.0, b.2, b.3)) in
    let costs : cost ≡ other = sym a.4 ∙ ap (λ r. r.cost) same ∙ b.4 in
    let lines : points ≡ line = sym a.5 ∙ ap (λ r. r.points) same ∙ b.5 in
    λ i. Cost (costs i) (lines i)
one_claim ss task law (Cost cost points) Cut a b = absurd (b a.0 a.2.legal)
one_claim ss task law Cut (Cost cost points) a b = absurd (a b.0 b.2.legal)
one_claim ss task law Cut Cut a b = refl

module _ (answers : (ss : List Solid) (task : Task) → HasOneAnswer ss task)
    (labels : (floor : Floor) (task : Task) (claim : Claim) (rows others : List LabelRow) → AreLeastLabels floor task claim rows → AreLeastLabels floor task claim others → rows ≡ others) where
  one_proof : (s : Scene) (e : Edge) (p q : Proof) → IsLeastProof s e p → IsLeastProof s e q → p ≡ q
  one_proof s e p q a b =
      let edges : p.edge ≡ q.edge = a.edge ∙ sym b.edge in
      let claims : p.claim ≡ q.claim = one_claim (solids s) (task_of s e) (answers (solids s) (task_of s e)) p.claim q.claim a.claim b.claim in
      let rows : p.rows ≡ q.rows = labels (floor_of s) (task_of s e) q.claim p.rows q.rows (subst (λ (c : Claim). AreLeastLabels (floor_of s) (task_of s e) c p.rows) claims a.labels) b.labels in
      λ i. record { edge = edges i; claim = claims i; rows = rows i }

  one_list : (s : Scene) (es : List Edge) (ps qs : List Proof) → AllZip (IsLeastProof s) es ps → AllZip (IsLeastProof s) es qs → ps ≡ qs
  one_list s [] [] [] a b = refl
  one_list s [] [] (q ∷ qs) a b = absurd b
  one_list s [] (p ∷ ps) qs a b = absurd a
  one_list s (e ∷ es) [] qs a b = absurd a
  one_list s (e ∷ es) (p ∷ ps) [] a b = absurd b
  one_list s (e ∷ es) (p ∷ ps) (q ∷ qs) a b =
      let first = one_proof s e p q a.0 b.0 in
      let rest = one_list s es ps qs a.1 b.1 in
      λ i. first i ∷ rest i

  pub one_certificate : HaveOneCertificate
  one_certificate s text other a b = a.is_text ∙ ap proofs_text (one_list s (connectors s) a.proofs b.proofs a.least b.least) ∙ sym b.is_text

-- ---- audits

module _ (one_text : (bytes : List ℕ) (proofs others : List Proof) → IsText bytes proofs → IsText bytes others → proofs ≡ others)
    (not_both : (bytes : List ℕ) (proofs : List Proof) (line : ℕ) → IsText bytes proofs → IsBadLine bytes line → ⊥)
    (one_line : (bytes : List ℕ) (line other : ℕ) → IsBadLine bytes line → IsBadLine bytes other → line ≡ other)
    (never_both : (s : Scene) (proofs : List Proof) (edge rule : ℕ) → ProveScene s proofs → FailsFirst s (connectors s) proofs edge rule → ⊥)
    (one_fault : (s : Scene) (proofs : List Proof) (d e q r : ℕ) → FailsFirst s (connectors s) proofs d q → FailsFirst s (connectors s) proofs e r → (d ≡ e) × (q ≡ r)) where
  pub one_audit : HaveOneAudit
  one_audit s bytes text other proved other_proved (proves ps a p e f) (proves qs b q g h) = record { same_text = e ∙ sym g; same_verdict = f ∙ sym h }
  one_audit s bytes text other proved other_proved (proves ps a p e f) (breaks_rule qs edge rule b q g h) =
      absurd (never_both s qs edge rule (subst (ProveScene s) (one_text bytes ps qs a b) p) q)
  one_audit s bytes text other proved other_proved (proves ps a p e f) (is_no_text line b g h) = absurd (not_both bytes ps line a b)
  one_audit s bytes text other proved other_proved (breaks_rule ps edge rule a p e f) (proves qs b q g h) =
      absurd (never_both s ps edge rule (subst (ProveScene s) (one_text bytes qs ps b a) q) p)
  one_audit s bytes text other proved other_proved (breaks_rule ps edge rule a p e f) (breaks_rule qs last least b q g h) =
      let same = one_fault s qs edge last rule least (subst (λ (xs : List Proof). FailsFirst s (connectors s) xs edge rule) (one_text bytes ps qs a b) p) q in
      record { same_text = e ∙ (λ i. audit_rule_line (same.0 i) (same.1 i)) ∙ sym g; same_verdict = f ∙ sym h }
  one_audit s bytes text other proved other_proved (breaks_rule ps edge rule a p e f) (is_no_text line b g h) = absurd (not_both bytes ps line a b)
  one_audit s bytes text other proved other_proved (is_no_text line a e f) (proves qs b q g h) = absurd (not_both bytes qs line b a)
  one_audit s bytes text other proved other_proved (is_no_text line a e f) (breaks_rule qs edge rule b q g h) = absurd (not_both bytes qs line b a)
  one_audit s bytes text other proved other_proved (is_no_text line a e f) (is_no_text last b g h) =
      record { same_text = e ∙ ap audit_line_line (one_line bytes line last a b) ∙ sym g; same_verdict = f ∙ sym h }

-- ---- what is said of an audit

pub audit_said : (s : Scene) (bytes : List ℕ) (o : Outcome) (proofs : List Proof) (r : Result (Unit {0}) AuditFault) → IsText bytes proofs → IsAudited s proofs r
    → OnOk r (AllZip (HoldsClaim s) (connectors s) proofs) → Says r o → AuditsCertificate s bytes o
audit_said s bytes o proofs (Ok done) is audited claims said = record {
  text = audit_yes_line;
  proved = true;
  audits = proves proofs is audited refl refl;
  claims = λ yes. record { proofs = proofs; is_text = is; claims = claims };
  outcome = said;
}
audit_said s bytes o proofs (Err (No edge rule)) is audited claims said = record {
  text = audit_rule_line edge rule;
  proved = false;
  audits = breaks_rule proofs edge rule is audited refl refl;
  claims = λ yes. absurd (false≢true yes);
  outcome = said;
}
audit_said s bytes o proofs (Err Memory) is audited claims said = absurd said

pub bad_said : (s : Scene) (bytes : List ℕ) (o : Outcome) (line : ℕ) → IsBadLine bytes line → o ≡ uncounted AuditNo (audit_line_line line) → AuditsCertificate s bytes o
bad_said s bytes o line bad said = record {
  text = audit_line_line line;
  proved = false;
  audits = is_no_text line bad refl refl;
  claims = λ yes. absurd (false≢true yes);
  outcome = said;
}
