-- When a run is complete: all is written, and something was refused, or nothing was.
use Rattle.std.specs.Prelude.{◌≡◌, ◌≢◌, ℕ, ◌≤◌, List, length, slice_get, Option, Some, All, IsSome, IfSome}
use Rattle.host_edge.specs.Count.{Rose}
use Rattle.host_edge.specs.Folder.{ExposedFiles, file_named}
use Rattle.host_edge.specs.Note.{Note, fault_count}
use Rattle.command_words.specs.Words.{Form, form_of}
use Rattle.report_text.specs.declared.status.Status.{Status}
use Rattle.report_text.specs.declared.status.Status.TheVariants.{NoMemory, Done, Refused, BadLine, AuditNo}
use Rattle.reroute_app.specs.Causes.{IsRefusedBy, FindsBadLine, FindsNoProof, FindsNothing, FindsRefusal}
use Rattle.reroute_app.specs.Run.{Writes, files_of}

-- the file with this name, if there is one, has no more bytes than the limit
abbrev pub IsWithin : Option ExposedFiles → List ℕ × ℕ → Type 0
IsWithin files f = IfSome files (λ named. IfSome (file_named named f.0) (λ bytes. length bytes ≤ f.1))

-- the first file that the subcommand names, its diagram, is not refused
abbrev pub HasDiagramIn : Option Form → Option ExposedFiles → Type 0
HasDiagramIn form files =
    (f : List ℕ × ℕ) (bytes : List ℕ) → slice_get (files_of form) 0 ≡ Some f → IfSome files (λ named. file_named named f.0 ≡ Some bytes) →
    IsRefusedBy form bytes → ⊥

-- the arguments have a form, the folder exposes its files, those that the arguments name are within their limits, and the diagram is valid
pub record AreSound (words : List (List ℕ)) (files : Option ExposedFiles) : Type 0 where
  pub form : IsSome (form_of words)
  pub exposed : IsSome files
  pub within : All (IsWithin files) (files_of (form_of words))
  pub diagram : HasDiagramIn (form_of words) files

-- the status is that of the one of these causes that holds
pub data EndsBy (words : List (List ℕ)) (files : Option ExposedFiles) (old new : List Note) (status : Status) : Type 0 where
  by_refusal : FindsRefusal words files old new → status ≡ Refused → EndsBy words files old new status
  by_bad_line : FindsBadLine words files old new → status ≡ BadLine → EndsBy words files old new status
  by_audit : FindsNoProof words files old new → status ≡ AuditNo → EndsBy words files old new status
  by_nothing : FindsNothing words files old new → status ≡ Done → EndsBy words files old new status

-- all the output was written, and a script, a line or a certificate was refused, or nothing was
pub record IsComplete (words : List (List ℕ)) (files : Option ExposedFiles) (old new : List Note) (before after : Option (List ℕ)) (status : Status) : Type 0 where
  pub writes : Writes words files old new before after status
  pub ends : EndsBy words files old new status

-- sound arguments and files, no read that failed and no fault of the output give a complete run, unless memory runs out
abbrev pub CompletesUnlessFault : List (List ℕ) → Option ExposedFiles → List Note → List Note → Option (List ℕ) → Option (List ℕ) → ℕ → ℕ → Status → Type 0
CompletesUnlessFault words files old new before after faults_before faults_after status =
    AreSound words files → fault_count new ≡ fault_count old → (Rose faults_before faults_after → ⊥) → status ≢ NoMemory →
    IsComplete words files old new before after status
