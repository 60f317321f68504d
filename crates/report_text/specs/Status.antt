-- The exit status for each status of a run.
use Rattle.std.specs.Prelude.{◌≢◌, ℕ}
use Rattle.report_text.specs.declared.status.Status.{Status}
use Rattle.report_text.specs.declared.status.Status.TheVariants.{Done, Refused, Words, Diagram, ReadFault, WriteFault, NoMemory, TooLong, BadLine, AuditNo}

-- the exit status of the program
abbrev pub code_of : Status → ℕ
code_of Done = 0
code_of Refused = 1
code_of Words = 2
code_of Diagram = 3
code_of ReadFault = 4
code_of WriteFault = 5
code_of NoMemory = 6
code_of TooLong = 7
code_of BadLine = 8
code_of AuditNo = 9

-- neither memory nor the output failed
abbrev pub IsOutputWritten : Status → Type 0
IsOutputWritten status = (status ≢ WriteFault) × (status ≢ NoMemory)
