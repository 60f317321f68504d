-- The outcome of the arguments and of the files that they name.
use Rattle.std.specs.Prelude.{◌≡◌, ℕ, ◌<◌, List, [], ◌∷◌, ◌++◌, length, slice_get, Option, Some, None, IfSome}
use Rattle.std.specs.Io.KnownBytes.{append_known}
use Rattle.host_edge.specs.Folder.{ExposedFiles}
use Rattle.host_edge.specs.Note.{Note}
use Rattle.host_edge.specs.Sink.{AppendsPart}
use Rattle.gml_text.specs.Tree.{Pairs}
use Rattle.scene_model.specs.Scene.{Scene}
use Rattle.report_text.specs.Files.{words_line}
use Rattle.report_text.specs.declared.status.Status.{Status}
use Rattle.report_text.specs.declared.status.Status.TheVariants.{Words}
use Rattle.command_words.specs.Words.{Form, check, route, make, preview, shared, prove, audit, form_of}
use Rattle.line_arena.specs.Count.{counted_by}
use Rattle.report_text.specs.Outcome.{Outcome, unsearched}
use Rattle.reroute_app.specs.Reads.{HasRead, ReadsFile, Course, Ends, EndsWith}
use Rattle.reroute_app.specs.Diagram.{most_bytes, IsDiagram, ReadsDiagram, most_script_bytes, ReadsScript, most_certificate_bytes, ReadsSmall}
use Rattle.form_check.specs.Checks.{Checks}
use Rattle.form_route.specs.Routes.{Replays}
use Rattle.form_make.specs.Makes.{Summarizes}
use Rattle.form_preview.specs.Proposes.{Previews}
use Rattle.form_shared.specs.Shares.{ListsPaths}
use Rattle.form_certificate.specs.Sizes.{too_large}
use Rattle.form_certificate.specs.Auditing.{AuditsCertificate}
use Rattle.form_certificate.specs.Proving.{WritesCertificate}

-- the course of a subcommand, whether the files are exposed or not
abbrev pub IsFormOutcome : Option Form → Option ExposedFiles → Course
IsFormOutcome None files = EndsWith (unsearched Words words_line)
IsFormOutcome (Some (check diagram)) files = ReadsDiagram files diagram (λ tree s. Ends (Checks tree s))
IsFormOutcome (Some (route diagram script workers count)) files = ReadsScript files diagram script (λ tree s commands. Ends (Replays tree s commands count))
IsFormOutcome (Some (make seed)) files = Ends (Summarizes seed)
IsFormOutcome (Some (preview diagram script workers)) files = ReadsScript files diagram script (λ tree s commands. Ends (Previews s commands))
IsFormOutcome (Some (shared diagram)) files = ReadsDiagram files diagram (λ tree s. Ends (ListsPaths s))
IsFormOutcome (Some (prove diagram)) files = ReadsSmall files diagram (λ s. Ends (WritesCertificate s))
IsFormOutcome (Some (audit diagram certificate)) files =
    ReadsSmall files diagram (λ s. ReadsFile files certificate most_certificate_bytes (λ bytes. Ends (AuditsCertificate s bytes)))

-- the outcome of the arguments, of the files if they are exposed, and of the reads in the notes
abbrev pub IsOutcome : List (List ℕ) → Option ExposedFiles → Course
IsOutcome words = IsFormOutcome (form_of words)

-- these have at most one outcome
abbrev pub HasOneOutcome : List (List ℕ) → Option ExposedFiles → List Note → List Note → Type 0
HasOneOutcome words files old new = (a b : Outcome) → IsOutcome words files old new a → IsOutcome words files old new b → a ≡ b

-- the status is that of the outcome, and all its output was written
pub record Writes (words : List (List ℕ)) (files : Option ExposedFiles) (old new : List Note) (before after : Option (List ℕ)) (result : Status) : Type 0 where
  pub outcome : Outcome
  pub is_outcome : IsOutcome words files old new outcome
  pub status : result ≡ outcome.status
  pub written : after ≡ append_known before outcome.text

-- a prefix of the outcome's output was written
pub record WritesPart (words : List (List ℕ)) (files : Option ExposedFiles) (old new : List Note) (before after : Option (List ℕ)) : Type 0 where
  pub outcome : Outcome
  pub is_outcome : IsOutcome words files old new outcome
  pub part : AppendsPart before after outcome.text

-- the files that a subcommand names, each with its limit, in order
abbrev pub files_of : Option Form → List (List ℕ × ℕ)
files_of None = []
files_of (Some (check diagram)) = (diagram, most_bytes) ∷ []
files_of (Some (route diagram script workers count)) = (diagram, most_bytes) ∷ (script, most_script_bytes) ∷ []
files_of (Some (make seed)) = []
files_of (Some (preview diagram script workers)) = (diagram, most_bytes) ∷ (script, most_script_bytes) ∷ []
files_of (Some (shared diagram)) = (diagram, most_bytes) ∷ []
files_of (Some (prove diagram)) = (diagram, most_bytes) ∷ []
files_of (Some (audit diagram certificate)) = (diagram, most_bytes) ∷ (certificate, most_certificate_bytes) ∷ []

-- the notes are of the first of these files, in order
abbrev pub AreNotesOf : List (List ℕ × ℕ) → List Note → Type 0
AreNotesOf files [] = Unit {0}
AreNotesOf [] (n ∷ ns) = ⊥
AreNotesOf (f ∷ fs) (n ∷ ns) = (n.name ≡ f.0) × (n.limit ≡ f.1) × AreNotesOf fs ns

-- the subcommand reads on after a diagram of this scene: an audit does where the scene is small enough
abbrev pub ReadsOnWith : Option Form → Scene → Type 0
ReadsOnWith (Some (audit diagram certificate)) s = too_large s ≡ None
ReadsOnWith other s = Unit {0}

-- the first of these notes is of the first file that the subcommand names, which is a diagram after which it reads on
pub record ReadsFirstAsDiagram (files : Option ExposedFiles) (form : Option Form) (old gained : List Note) : Type 0 where
  pub first : List ℕ × ℕ
  pub is_first : slice_get (files_of form) 0 ≡ Some first
  pub bytes : List ℕ
  pub middle : List Note
  pub read : HasRead files first.0 first.1 old middle bytes
  pub rest : List Note
  pub joined : old ++ gained ≡ middle ++ rest
  pub tree : Pairs
  pub scene : Scene
  pub diagram : IsDiagram bytes tree scene
  pub reads_on : ReadsOnWith form scene

-- the files that were read are the first of those that the arguments name, each once and with its limit; a second one only after a valid diagram
pub record ReadsInOrder (words : List (List ℕ)) (files : Option ExposedFiles) (old new : List Note) : Type 0 where
  pub gained : List Note
  pub grown : new ≡ old ++ gained
  pub in_order : AreNotesOf (files_of (form_of words)) gained
  pub second : 1 < length gained → ReadsFirstAsDiagram files (form_of words) old gained

-- the count rose by the searches of the outcome, if their number is defined
pub record Tallies (words : List (List ℕ)) (files : Option ExposedFiles) (old new : List Note) (before after : ℕ) : Type 0 where
  pub outcome : Outcome
  pub is_outcome : IsOutcome words files old new outcome
  pub searched : IfSome outcome.searched (λ searched. after ≡ counted_by searched before)
