-- For given arguments, exposed files and notes there is one outcome.
use Rattle.std.proofs.Common.{◌≡◌, ℕ, Bool, List, length, Option, Some, None, Ok, sym, ap, ◌∙◌}
use Rattle.std.specs.Prelude.{IsSome}
use Rattle.host_edge.specs.Folder.{ExposedFiles}
use Rattle.host_edge.specs.Note.{Note}
use Rattle.gml_text.specs.Tree.{Pairs}
use Rattle.scene_model.specs.Scene.{Scene, connectors}
use Rattle.diagram_read.specs.declared.fault.DiagramFault.{DiagramFault}
use Rattle.diagram_read.specs.Scene.{scene_of}
use Rattle.edit_script.specs.Script.{commands}
use Rattle.edit_script.proofs.Directed.{have_directions}
use Rattle.form_check.specs.Checks.{HaveOneCheck, first_line_fault, ChecksUnless, Checks, check_status}
use Rattle.form_route.specs.Routes.{ComesToOne, Replays}
use Rattle.form_make.specs.Makes.{SeedsComeToOne, Summarizes}
use Rattle.form_preview.specs.Proposes.{ComeToOne, Previews, opening_searches}
use Rattle.form_preview.specs.Blocks.{blocks_of}
use Rattle.form_shared.specs.Shares.{HaveOneText, ListsPaths}
use Rattle.diagram_read.specs.declared.fault.Part.{Part}
use Rattle.form_certificate.specs.Sizes.{too_large}
use Rattle.form_certificate.specs.Proving.{HaveOneCertificate, WritesCertificate}
use Rattle.form_certificate.specs.Auditing.{HaveOneAudit, AuditsCertificate, audit_status}
use Rattle.command_words.specs.Words.{Form, check, route, make, preview, shared, prove, audit, form_of}
use Rattle.report_text.specs.declared.status.Status.TheVariants.{Done}
use Rattle.report_text.specs.Outcome.{Outcome, counted, hinted, uncounted, unsearched}
use Rattle.reroute_app.specs.Reads.{ReadsFile, Course, Ends}
use Rattle.reroute_app.specs.Diagram.{most_script_bytes, most_certificate_bytes, UnlessLarge}
use Rattle.form_route.specs.Report.{script_status, unrouted_hint}
use Rattle.reroute_app.specs.Run.{IsFormOutcome, HasOneOutcome}
use Rattle.reroute_app.proofs.Courses.{IsCourse, course_ends, course_ends_with, course_file, course_diagram}
use Rattle.reroute_app.proofs.ReadScenes.{scene_valid}

module _ (checks : HaveOneCheck) (replays : ComesToOne) (seeds : SeedsComeToOne) (proposals : ComeToOne) (paths : HaveOneText) (certificates : HaveOneCertificate) (audits : HaveOneAudit) where
  one_check : (tree : Pairs) (s : Scene) (o : Option DiagramFault) (a b : Outcome) → ChecksUnless tree s o a → ChecksUnless tree s o b → a ≡ b
  one_check tree s None a b p q =
      let same = checks tree s p.text q.text p.breach q.breach p.checks q.checks in
      p.outcome ∙ (λ i. unsearched (check_status (same.same_verdict i)) (same.same_text i)) ∙ sym q.outcome
  one_check tree s (Some fault) a b p q = p ∙ sym q

  one_replay : (tree : Pairs) (s : Scene) (bytes : List ℕ) (count : Bool) → scene_of tree ≡ Ok s → (a b : Outcome) → Replays tree s (commands bytes) count a → Replays tree s (commands bytes) count b → a ≡ b
  one_replay tree s bytes count is a b p q =
      let same = replays tree s (commands bytes) count p.text q.text p.refused q.refused p.searched q.searched p.unrouted q.unrouted (scene_valid tree s is) (have_directions bytes) p.routes q.routes in
      p.outcome ∙ (λ i. hinted (counted (script_status (same.same_verdict i)) (same.same_text i) (same.same_count i)) (unrouted_hint (same.same_unrouted i))) ∙ sym q.outcome

  one_summary : (seed : ℕ) (a b : Outcome) → Summarizes seed a → Summarizes seed b → a ≡ b
  one_summary seed a b p q =
      let same = seeds seed p.text q.text p.searched q.searched p.makes q.makes in
      p.outcome ∙ (λ i. counted Done (same.0 i) (same.1 i)) ∙ sym q.outcome

  one_preview : (s : Scene) (bytes : List ℕ) → (a b : Outcome) → Previews s (commands bytes) a → Previews s (commands bytes) b → a ≡ b
  one_preview s bytes a b p q =
      let same = proposals s (commands bytes) p.text q.text p.refused q.refused p.proposes q.proposes in
      p.outcome ∙ (λ i. counted (script_status (same.same_verdict i)) (same.same_text i) (opening_searches s (blocks_of (commands bytes)))) ∙ sym q.outcome

  one_sharing : (tree : Pairs) (s : Scene) → scene_of tree ≡ Ok s → (a b : Outcome) → ListsPaths s a → ListsPaths s b → a ≡ b
  one_sharing tree s is a b p q = p.outcome ∙ ap (λ text. counted Done text (length (connectors s))) (paths s p.text q.text (scene_valid tree s is) p.shares q.shares) ∙ sym q.outcome

  one_certificate : (s : Scene) (a b : Outcome) → WritesCertificate s a → WritesCertificate s b → a ≡ b
  one_certificate s a b p q = p.outcome ∙ ap (uncounted Done) (certificates s p.text q.text p.is_certificate q.is_certificate) ∙ sym q.outcome

  one_audit : (s : Scene) (bytes : List ℕ) (a b : Outcome) → AuditsCertificate s bytes a → AuditsCertificate s bytes b → a ≡ b
  one_audit s bytes a b p q =
      let same = audits s bytes p.text q.text p.proved q.proved p.audits q.audits in
      p.outcome ∙ (λ i. uncounted (audit_status (same.same_verdict i)) (same.same_text i)) ∙ sym q.outcome

  course_small : (part : Option Part) (next : Course) → IsCourse next → IsCourse (UnlessLarge part next)
  course_small None next is = is
  course_small (Some part) next is = course_ends_with _

  -- the course of a subcommand, where the files are exposed
  pub course_form : (form : Option Form) (files : Option ExposedFiles) → IsSome files → IsCourse (IsFormOutcome form files)
  course_form None files some = course_ends_with _
  course_form (Some (check diagram)) files some =
      course_diagram files diagram (λ tree s. Ends (Checks tree s)) some
      (λ tree s is. course_ends (Checks tree s) (one_check tree s (first_line_fault tree s.edges)))
  course_form (Some (route diagram script workers count)) files some =
      course_diagram files diagram (λ tree s. ReadsFile files script most_script_bytes (λ bytes. Ends (Replays tree s (commands bytes) count))) some
      (λ tree s is. course_file files script most_script_bytes (λ bytes. Ends (Replays tree s (commands bytes) count)) some
      (λ bytes. course_ends (Replays tree s (commands bytes) count) (one_replay tree s bytes count is)))
  course_form (Some (make seed)) files some = course_ends (Summarizes seed) (one_summary seed)
  course_form (Some (preview diagram script workers)) files some =
      course_diagram files diagram (λ tree s. ReadsFile files script most_script_bytes (λ bytes. Ends (Previews s (commands bytes)))) some
      (λ tree s is. course_file files script most_script_bytes (λ bytes. Ends (Previews s (commands bytes))) some
      (λ bytes. course_ends (Previews s (commands bytes)) (one_preview s bytes)))
  course_form (Some (shared diagram)) files some =
      course_diagram files diagram (λ tree s. Ends (ListsPaths s)) some (λ tree s is. course_ends (ListsPaths s) (one_sharing tree s is))
  course_form (Some (prove diagram)) files some =
      course_diagram files diagram (λ tree s. UnlessLarge (too_large s) (Ends (WritesCertificate s))) some
      (λ tree s is. course_small (too_large s) (Ends (WritesCertificate s)) (course_ends (WritesCertificate s) (one_certificate s)))
  course_form (Some (audit diagram certificate)) files some =
      course_diagram files diagram (λ tree s. UnlessLarge (too_large s) (ReadsFile files certificate most_certificate_bytes (λ bytes. Ends (AuditsCertificate s bytes)))) some
      (λ tree s is. course_small (too_large s) (ReadsFile files certificate most_certificate_bytes (λ bytes. Ends (AuditsCertificate s bytes)))
      (course_file files certificate most_certificate_bytes (λ bytes. Ends (AuditsCertificate s bytes)) some (λ bytes. course_ends (AuditsCertificate s bytes) (one_audit s bytes))))

  pub one_outcome : (words : List (List ℕ)) (files : Option ExposedFiles) (old new : List Note) → IsSome files → HasOneOutcome words files old new
  one_outcome words files old new some a b p q = (course_form (form_of words) files some).one old new a b p q
