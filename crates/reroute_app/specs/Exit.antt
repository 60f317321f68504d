-- What people are told when the program ends.
use Rattle.std.specs.Prelude.{◌≡◌, ℕ, List, Option}
use Rattle.host_edge.specs.Folder.{ExposedFiles}
use Rattle.host_edge.specs.Note.{Note}
use Rattle.report_text.specs.declared.hint.Hint.{Hint}
use Rattle.report_text.specs.declared.hint.Hint.TheVariants.{Nothing}
use Rattle.report_text.specs.declared.status.Status.{Status}
use Rattle.report_text.specs.declared.status.Status.TheVariants.{Done, Refused, Words, Diagram, ReadFault, WriteFault, NoMemory, TooLong, BadLine, AuditNo}
use Rattle.reroute_app.specs.Hint.{words_hint}
use Rattle.reroute_app.specs.Run.{Writes}

-- what people are told where the arguments end with this status and this hint
abbrev pub told : List (List ℕ) → Status → Hint → Hint
told arguments Words hint = words_hint arguments
told arguments WriteFault hint = Nothing
told arguments NoMemory hint = Nothing
told arguments Done hint = hint
told arguments Refused hint = hint
told arguments Diagram hint = hint
told arguments ReadFault hint = hint
told arguments TooLong hint = hint
told arguments BadLine hint = hint
told arguments AuditNo hint = hint

-- all the output of the outcome was written, and people are told its hint
pub record WritesAndTells (arguments : List (List ℕ)) (files : Option ExposedFiles) (old new : List Note) (before after : Option (List ℕ)) (status : Status) (hint : Hint) : Type 0 where
  pub writes : Writes arguments files old new before after status
  pub tells : hint ≡ told arguments status writes.outcome.hint
