-- Courses, and the read of a file.
use Rattle.std.specs.Prelude.{◌≡◌, ℕ, ◌<◌, ◌≤◌, true, false, List, length, Option, Some, IfSome, IsSomeAnd}
use Rattle.host_edge.specs.Folder.{ExposedFiles, file_named, GainsNote}
use Rattle.host_edge.specs.Note.{Note}
use Rattle.report_text.specs.Files.{read_fault_line, too_long_line}
use Rattle.report_text.specs.declared.status.Status.TheVariants as status
use Rattle.report_text.specs.Outcome.{Outcome, unsearched}

-- a course relates the notes before it and those after it to an outcome
abbrev pub Course : Type 1
Course = List Note → List Note → Outcome → Type 0

-- nothing more is read, and this holds of the outcome
abbrev pub Ends : (Outcome → Type 0) → Course
Ends P old new o = (new ≡ old) × P o

-- nothing more is read, and this is the outcome
abbrev pub EndsWith : Outcome → Course
EndsWith outcome = Ends (λ o. o ≡ outcome)

-- the file with the name was read, and has these bytes
pub record HasRead (files : Option ExposedFiles) (name : List ℕ) (limit : ℕ) (old new : List Note) (bytes : List ℕ) : Type 0 where
  pub noted : GainsNote old new name limit (length bytes) false
  pub short : length bytes ≤ limit
  pub exposed : IfSome files (λ named. file_named named name ≡ Some bytes)

-- the read failed
pub record HasFailed (name : List ℕ) (limit : ℕ) (old new : List Note) : Type 0 where
  pub taken : ℕ
  pub noted : GainsNote old new name limit taken true

-- the file has more bytes than the limit
pub record HasMore (files : Option ExposedFiles) (name : List ℕ) (limit : ℕ) (old new : List Note) : Type 0 where
  pub taken : ℕ
  pub more : limit < taken
  pub noted : GainsNote old new name limit taken false
  pub exposed : IfSome files (λ named. IsSomeAnd (file_named named name) (λ bytes. limit < length bytes))

-- a file is read: that fails, or it is too long, or the course continues with its bytes
pub data ReadsFile (files : Option ExposedFiles) (name : List ℕ) (limit : ℕ) (next : List ℕ → Course) (old new : List Note) (o : Outcome) : Type 0 where
  fails : HasFailed name limit old new → o ≡ unsearched status.ReadFault (read_fault_line name) → ReadsFile files name limit next old new o
  is_too_long : HasMore files name limit old new → o ≡ unsearched status.TooLong (too_long_line name limit) → ReadsFile files name limit next old new o
  goes_on : (bytes : List ℕ) (middle : List Note) → HasRead files name limit old middle bytes → next bytes middle new o
      → ReadsFile files name limit next old new o
