-- A run whose arguments and files are sound is complete.
use Rattle.std.proofs.Common.{◌≡◌, ◌≢◌, ◌↔◌, ℕ, ◌<◌, ◌≤◌, Bool, true, false, List, [], ◌∷◌, ◌++◌, length, Option, Some, None, Result, Ok, Err, All, Any, refl, sym, ap, subst, ◌∙◌, arith}
use Rattle.std.specs.Prelude.{◌+◌, slice_get, IsSome, IfSome, IsSomeAnd, cond}
use Rattle.std.proofs.lemmas.List.Sums.{sum_by-append}
use Rattle.host_edge.specs.Count.{Rose}
use Rattle.host_edge.specs.Folder.{ExposedFiles, file_named}
use Rattle.host_edge.specs.Note.{Note, fault_count}
use Rattle.gml_text.specs.Tree.{Pairs}
use Rattle.gml_text.specs.declared.fault.GmlFault.{GmlFault}
use Rattle.scene_model.specs.Scene.{Scene}
use Rattle.diagram_read.specs.declared.fault.DiagramFault.{DiagramFault}
use Rattle.diagram_read.specs.declared.fault.Part.{Part}
use Rattle.diagram_read.specs.Scene.{scene_of}
use Rattle.edit_script.specs.Script.{commands}
use Rattle.form_check.specs.Checks.{first_line_fault, ChecksUnless, Checks, check_status}
use Rattle.form_certificate.specs.Sizes.{too_large}
use Rattle.command_words.specs.Words.{Form, check, route, make, preview, shared, prove, audit, form_of}
use Rattle.report_text.specs.declared.status.Status.{Status}
use Rattle.report_text.specs.declared.status.Status.TheVariants as status
use Rattle.report_text.specs.Status.{IsOutputWritten}
use Rattle.report_text.specs.Outcome.{Outcome}
use Rattle.reroute_app.specs.Reads.{ReadsFile, Course, Ends}
use Rattle.reroute_app.specs.Reads.ReadsFile.{fails, is_too_long, goes_on}
use Rattle.reroute_app.specs.Diagram.{most_bytes, TakesScene, TakesTree, ReadsDiagram, most_script_bytes, most_certificate_bytes, UnlessLarge}
use Rattle.form_route.specs.Report.{script_status}
use Rattle.form_route.specs.Routes.{Replays}
use Rattle.form_preview.specs.Proposes.{Previews}
use Rattle.form_shared.specs.Shares.{ListsPaths}
use Rattle.form_certificate.specs.Auditing.{AuditsCertificate, audit_status}
use Rattle.form_certificate.specs.Proving.{WritesCertificate}
use Rattle.reroute_app.specs.Run.{IsFormOutcome, Writes, files_of}
use Rattle.reroute_app.specs.Causes.{LastFailed, HasReadDiagram, FindsNoDiagram, FindsBadLine, FindsNoProof, FindsRefusal, FindsNothing}
use Rattle.reroute_app.specs.Complete.{AreSound, CompletesUnlessFault, EndsBy, IsComplete, IsWithin}
use Rattle.reroute_app.specs.Complete.EndsBy.{by_refusal, by_bad_line, by_audit, by_nothing}

-- ---- a failed read counts as a fault

faults_more : (xs ys : List Note) → fault_count (xs ++ ys) ≡ fault_count xs + fault_count ys
faults_more xs ys = sum_by-append (λ (n : Note). cond n.failed 1 0) xs ys

failed_counts : (n : Note) → n.failed ≡ true → fault_count (n ∷ []) ≡ 1
failed_counts n failed = ap (λ b. fault_count (record { name = n.name; limit = n.limit; taken = n.taken; failed = b } ∷ [])) failed

no_failure : (old new : List Note) → fault_count new ≡ fault_count old → LastFailed old new → ⊥
no_failure old new same (last, gains, failed) =
    omega (arith, same, ap fault_count gains.gained, faults_more old (gains.front ++ last ∷ []), faults_more gains.front (last ∷ []), failed_counts last failed)

-- ---- a status that says too long comes with a file that is

never_checks : (b : Bool) → check_status b ≡ status.TooLong → ⊥
never_checks true e = absurd cc
never_checks false e = absurd cc

never_replays : (b : Bool) → script_status b ≡ status.TooLong → ⊥
never_replays true e = absurd cc
never_replays false e = absurd cc

never_audits : (b : Bool) → audit_status b ≡ status.TooLong → ⊥
never_audits true e = absurd cc
never_audits false e = absurd cc

-- the file with this name has more bytes than the limit
abbrev IsBeyond : Option ExposedFiles → List ℕ × ℕ → Type 0
IsBeyond files f = IfSome files (λ named. IsSomeAnd (file_named named f.0) (λ bytes. f.1 < length bytes))

module _ (files : Option ExposedFiles) (new : List Note) (o : Outcome) (long : o.status ≡ status.TooLong) (Q : Type 0) where
  not_with : (p : Outcome) → o ≡ p → (p.status ≡ status.TooLong → ⊥) → Q
  not_with p is never = absurd (never (sym (ap (λ (q : Outcome). q.status) is) ∙ long))

  second_beyond : (name : List ℕ) (limit : ℕ) (P : List ℕ → Outcome → Type 0) (middle : List Note) → (IsBeyond files (name, limit) → Q) → ((bytes : List ℕ) → P bytes o → Q) →
      ReadsFile files name limit (λ bytes. Ends (P bytes)) middle new o → Q
  second_beyond name limit P middle here on (fails failed is) = not_with _ is (λ e. absurd cc)
  second_beyond name limit P middle here on (is_too_long more is) = here more.exposed
  second_beyond name limit P middle here on (goes_on bytes last read later) = on bytes later.1

  module _ (name : List ℕ) (old : List Note) (next : Pairs → Scene → Course) (here : IsBeyond files (name, most_bytes) → Q) (on : (tree : Pairs) (scene : Scene) (middle : List Note) → next tree scene middle new o → Q) where
    scene_beyond : (tree : Pairs) (middle : List Note) (r : Result Scene DiagramFault) → TakesScene (next tree) r middle new o → Q
    scene_beyond tree middle (Ok scene) later = on tree scene middle later
    scene_beyond tree middle (Err fault) later = not_with _ later.1 (λ e. absurd cc)

    tree_beyond : (bytes : List ℕ) (middle : List Note) (r : Result Pairs GmlFault) → TakesTree next bytes r middle new o → Q
    tree_beyond bytes middle (Ok tree) later = scene_beyond tree middle (scene_of tree) later
    tree_beyond bytes middle (Err fault) later = not_with _ later.1 (λ e. absurd cc)

    diagram_beyond : ReadsDiagram files name next old new o → Q
    diagram_beyond (fails failed is) = not_with _ is (λ e. absurd cc)
    diagram_beyond (is_too_long more is) = here more.exposed
    diagram_beyond (goes_on bytes middle read later) = tree_beyond bytes middle later.0 later.2

  checks_beyond : (tree : Pairs) (scene : Scene) (r : Option DiagramFault) → ChecksUnless tree scene r o → Q
  checks_beyond tree scene None said = not_with _ said.outcome (never_checks said.breach)
  checks_beyond tree scene (Some fault) is = not_with _ is (λ e. absurd cc)

  large_beyond : (part : Option Part) (next : Course) (middle : List Note) → (next middle new o → Q) → UnlessLarge part next middle new o → Q
  large_beyond None next middle on later = on later
  large_beyond (Some part) next middle on later = not_with _ later.1 (λ e. absurd cc)

-- one of the files that the subcommand names is longer than its limit
file_beyond : (form : Option Form) (files : Option ExposedFiles) (old new : List Note) (o : Outcome) → o.status ≡ status.TooLong → IsFormOutcome form files old new o → Any (IsBeyond files) (files_of form)
file_beyond None files old new o long is = not_with files new o long _ _ is.1 (λ e. absurd cc)
file_beyond (Some (check diagram)) files old new o long is =
    diagram_beyond files new o long _ diagram old (λ tree s. Ends (Checks tree s)) (λ beyond. (0, (diagram, most_bytes), omega arith, refl, beyond))
    (λ tree s middle later. checks_beyond files new o long _ tree s (first_line_fault tree s.edges) later.1) is
file_beyond (Some (route diagram script workers count)) files old new o long is =
    diagram_beyond files new o long _ diagram old (λ tree s. ReadsFile files script most_script_bytes (λ bytes. Ends (Replays tree s (commands bytes) count))) (λ beyond. (0, (diagram, most_bytes), omega arith, refl, beyond))
    (λ tree s middle later. second_beyond files new o long _ script most_script_bytes (λ bytes. Replays tree s (commands bytes) count) middle (λ beyond. (1, (script, most_script_bytes), omega arith, refl, beyond))
    (λ bytes said. not_with files new o long _ _ said.outcome (never_replays said.refused)) later) is
file_beyond (Some (make seed)) files old new o long is = not_with files new o long _ _ is.1.outcome (λ e. absurd cc)
file_beyond (Some (preview diagram script workers)) files old new o long is =
    diagram_beyond files new o long _ diagram old (λ tree s. ReadsFile files script most_script_bytes (λ bytes. Ends (Previews s (commands bytes)))) (λ beyond. (0, (diagram, most_bytes), omega arith, refl, beyond))
    (λ tree s middle later. second_beyond files new o long _ script most_script_bytes (λ bytes. Previews s (commands bytes)) middle (λ beyond. (1, (script, most_script_bytes), omega arith, refl, beyond))
    (λ bytes said. not_with files new o long _ _ said.outcome (never_replays said.refused)) later) is
file_beyond (Some (shared diagram)) files old new o long is =
    diagram_beyond files new o long _ diagram old (λ tree s. Ends (ListsPaths s)) (λ beyond. (0, (diagram, most_bytes), omega arith, refl, beyond))
    (λ tree s middle later. not_with files new o long _ _ later.1.outcome (λ e. absurd cc)) is
file_beyond (Some (prove diagram)) files old new o long is =
    diagram_beyond files new o long _ diagram old (λ tree s. UnlessLarge (too_large s) (Ends (WritesCertificate s))) (λ beyond. (0, (diagram, most_bytes), omega arith, refl, beyond))
    (λ tree s middle later. large_beyond files new o long _ (too_large s) (Ends (WritesCertificate s)) middle (λ ends. not_with files new o long _ _ ends.1.outcome (λ e. absurd cc)) later) is
file_beyond (Some (audit diagram certificate)) files old new o long is =
    diagram_beyond files new o long _ diagram old (λ tree s. UnlessLarge (too_large s) (ReadsFile files certificate most_certificate_bytes (λ bytes. Ends (AuditsCertificate s bytes))))
    (λ beyond. (0, (diagram, most_bytes), omega arith, refl, beyond))
    (λ tree s middle later. large_beyond files new o long _ (too_large s) (ReadsFile files certificate most_certificate_bytes (λ bytes. Ends (AuditsCertificate s bytes))) middle
    (λ reads. second_beyond files new o long _ certificate most_certificate_bytes (AuditsCertificate s) middle (λ beyond. (1, (certificate, most_certificate_bytes), omega arith, refl, beyond))
    (λ bytes said. not_with files new o long _ _ said.outcome (never_audits said.proved)) reads) later) is

-- a file within its limit is not beyond it
not_beyond : (files : Option ExposedFiles) (f : List ℕ × ℕ) → IsSome files → IsWithin files f → IsBeyond files f → ⊥
not_beyond None f some within beyond = absurd cc
not_beyond (Some named) f some within beyond = by (file_named named f.0) within beyond
  where
    by : (r : Option (List ℕ)) → IfSome r (λ bytes. length bytes ≤ f.1) → IsSomeAnd r (λ bytes. f.1 < length bytes) → ⊥
    by None w b = absurd b
    by (Some bytes) w b = omega (arith, w, b)

all_within : (files : Option ExposedFiles) (fs : List (List ℕ × ℕ)) → IsSome files → All (IsWithin files) fs → Any (IsBeyond files) fs → ⊥
all_within files fs some within (k, f, inside, is, beyond) = not_beyond files f some (subst (IsWithin files) is (within k f inside)) beyond

-- ---- the diagram

-- the diagram that was read is the first file that the subcommand names
first_named : (form : Option Form) (files : Option ExposedFiles) (old new : List Note) (bytes : List ℕ) → HasReadDiagram form files old new bytes →
    (f : List ℕ × ℕ) × (slice_get (files_of form) 0 ≡ Some f) × IfSome files (λ named. file_named named f.0 ≡ Some bytes)
first_named None files old new bytes read = absurd read
first_named (Some (check diagram)) files old new bytes read = ((diagram, most_bytes), refl, read.exposed)
first_named (Some (route diagram script workers count)) files old new bytes read = ((diagram, most_bytes), refl, read.exposed)
first_named (Some (make seed)) files old new bytes read = absurd read
first_named (Some (preview diagram script workers)) files old new bytes read = ((diagram, most_bytes), refl, read.exposed)
first_named (Some (shared diagram)) files old new bytes read = ((diagram, most_bytes), refl, read.exposed)
first_named (Some (prove diagram)) files old new bytes read = ((diagram, most_bytes), refl, read.exposed)
first_named (Some (audit diagram certificate)) files old new bytes read = ((diagram, most_bytes), refl, read.exposed)

-- ---- a run

-- what the clauses of a run say
pub record RunSays (words : List (List ℕ)) (files : Option ExposedFiles) (old new : List Note) (before after : Option (List ℕ)) (faults_before faults_after : ℕ) (s : Status) : Type 0 where
  pub output : IsOutputWritten s → Writes words files old new before after s
  pub no_form : IsOutputWritten s → (s ≡ status.Words) ↔ (form_of words ≡ None)
  pub read_fault : IsOutputWritten s → (s ≡ status.ReadFault) ↔ LastFailed old new
  pub diagram : IsSome files → IsOutputWritten s → (s ≡ status.Diagram) ↔ FindsNoDiagram words files old new
  pub refused : IsSome files → IsOutputWritten s → (s ≡ status.Refused) ↔ FindsRefusal words files old new
  pub bad_line : IsSome files → IsOutputWritten s → (s ≡ status.BadLine) ↔ FindsBadLine words files old new
  pub audit_no : IsSome files → IsOutputWritten s → (s ≡ status.AuditNo) ↔ FindsNoProof words files old new
  pub done : IsSome files → IsOutputWritten s → (s ≡ status.Done) ↔ FindsNothing words files old new
  pub write_fault : s ≡ status.WriteFault → Rose faults_before faults_after

module _ (words : List (List ℕ)) (files : Option ExposedFiles) (old new : List Note) (before after : Option (List ℕ)) (faults_before faults_after : ℕ) (s : Status)
    (says : RunSays words files old new before after faults_before faults_after s) (sound : AreSound words files) (same : fault_count new ≡ fault_count old) (calm : Rose faults_before faults_after → ⊥) (memory : s ≢ status.NoMemory) where
  written : IsOutputWritten s
  written = (λ e. calm (says.write_fault e), memory)

  with_form : form_of words ≡ None → ⊥
  with_form none = absurd (let some = subst IsSome none sound.form in cc)

  within_limits : s ≡ status.TooLong → ⊥
  within_limits e =
      let w = says.output written in
      all_within files (files_of (form_of words)) sound.exposed sound.within
      (file_beyond (form_of words) files old new w.outcome (sym w.status ∙ e) w.is_outcome)

  with_diagram : FindsNoDiagram words files old new → ⊥
  with_diagram none =
      let first = first_named (form_of words) files old new none.bytes none.read in
      sound.diagram first.0 none.bytes first.1 first.2 none.refused

  ends_by : (t : Status) → s ≡ t → EndsBy words files old new s
  ends_by status.Done e = by_nothing ((says.done sound.exposed written).0 e) e
  ends_by status.Refused e = by_refusal ((says.refused sound.exposed written).0 e) e
  ends_by status.BadLine e = by_bad_line ((says.bad_line sound.exposed written).0 e) e
  ends_by status.AuditNo e = by_audit ((says.audit_no sound.exposed written).0 e) e
  ends_by status.Words e = absurd (with_form ((says.no_form written).0 e))
  ends_by status.Diagram e = absurd (with_diagram ((says.diagram sound.exposed written).0 e))
  ends_by status.ReadFault e = absurd (no_failure old new same ((says.read_fault written).0 e))
  ends_by status.TooLong e = absurd (within_limits e)
  ends_by status.WriteFault e = absurd (written.0 e)
  ends_by status.NoMemory e = absurd (memory e)

  complete : IsComplete words files old new before after s
  complete = record { writes = says.output written; ends = ends_by s refl }

pub completes : (words : List (List ℕ)) (files : Option ExposedFiles) (old new : List Note) (before after : Option (List ℕ)) (faults_before faults_after : ℕ) (s : Status) →
    RunSays words files old new before after faults_before faults_after s → CompletesUnlessFault words files old new before after faults_before faults_after s
completes words files old new before after faults_before faults_after s says = λ sound same calm memory. complete words files old new before after faults_before faults_after s says sound same calm memory
