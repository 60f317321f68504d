-- Where an audit ends as done, the certificate claims what is true.
use Rattle.std.proofs.Common.{◌≡◌, ℕ, Bool, true, false, List, Option, Some, None, refl, sym, ap, subst}
use Rattle.host_edge.specs.Folder.{ExposedFiles}
use Rattle.host_edge.specs.Note.{Note}
use Rattle.gml_text.specs.Tree.{Pairs}
use Rattle.scene_model.specs.Scene.{Scene}
use Rattle.diagram_read.specs.declared.fault.Part.{Part}
use Rattle.command_words.specs.Words.{Form, audit}
use Rattle.form_certificate.specs.Sizes.{too_large}
use Rattle.form_certificate.specs.Auditing.{HasTrueClaims, AuditsCertificate, audit_status}
use Rattle.report_text.specs.declared.status.Status.TheVariants as status
use Rattle.report_text.specs.Outcome.{Outcome}
use Rattle.reroute_app.specs.Reads.{HasRead, ReadsFile, Ends}
use Rattle.reroute_app.specs.Diagram.{HasDiagram, most_certificate_bytes, UnlessLarge}
use Rattle.reroute_app.specs.Run.{IsFormOutcome, IsOutcome}
use Rattle.reroute_app.specs.Causes.{ClaimsAreTrue, FindsTrueClaims}
use Rattle.reroute_app.proofs.PastReads.{IsPastReads, diagram_read, file_read, past_too}

module _ (files : Option ExposedFiles) (diagram certificate : List ℕ) (old new : List Note) (o : Outcome) (done : o.status ≡ status.Done) where
  past : IsPastReads o.status
  past = subst IsPastReads (sym done) tt

  said_true : (s : Scene) (bytes : List ℕ) (proved : Bool) → (proved ≡ true → HasTrueClaims s bytes) → o.status ≡ audit_status proved → HasTrueClaims s bytes
  said_true s bytes true claims is = claims refl
  said_true s bytes false claims is = cc

  audited : (middle : List Note) (tree : Pairs) (s : Scene) (part : Option Part) → HasDiagram files diagram old middle tree s
      → UnlessLarge part (ReadsFile files certificate most_certificate_bytes (λ bytes. Ends (AuditsCertificate s bytes))) middle new o → FindsTrueClaims files diagram certificate old new
  audited middle tree s None has later =
      let on = file_read files certificate middle new o past most_certificate_bytes (λ bytes. Ends (AuditsCertificate s bytes)) later in
      let made = on.later.1 in
      record {
        tree = tree;
        scene = s;
        bytes = on.bytes;
        read = record { middle = middle; first = has; read = subst (λ (ns : List Note). HasRead files certificate most_certificate_bytes middle ns on.bytes) (sym on.later.0) on.read };
        claims = said_true s on.bytes made.proved made.claims (ap (λ (q : Outcome). q.status) made.outcome);
      }
  audited middle tree s (Some part) has later = absurd (past_too o _ past later.1)

  claims_found : IsFormOutcome (Some (audit diagram certificate)) files old new o → FindsTrueClaims files diagram certificate old new
  claims_found is =
      let first = diagram_read files diagram old new o past (λ tree s. UnlessLarge (too_large s) (ReadsFile files certificate most_certificate_bytes (λ bytes. Ends (AuditsCertificate s bytes)))) is in
      audited first.middle first.tree first.scene (too_large first.scene) first.has first.later

pub claims_are_true : (words : List (List ℕ)) (files : Option ExposedFiles) (old new : List Note) (o value : Outcome) → o ≡ value → o.status ≡ status.Done → IsOutcome words files old new value
    → ClaimsAreTrue words files old new
claims_are_true words files old new o value same done is diagram certificate form =
    claims_found files diagram certificate old new o done (subst (λ (f : Option Form). IsFormOutcome f files old new o) form (subst (IsOutcome words files old new) (sym same) is))
