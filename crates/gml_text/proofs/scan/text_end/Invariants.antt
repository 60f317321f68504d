-- What holds while a string goes on.
use Rattle.std.proofs.Common.{◌≤◌, ◌-◌, length}
use Rattle.gml_text.specs.Standing.{EndsText}
use Rattle.gml_text.proofs.scan.text_end.Given as goal

abbrev pub invariant-loop-end : goal.invariant-loop-end
invariant-loop-end l = record { after : l.fn.from ≤ l.end; within : l.end ≤ length l.bytes; ends : EndsText l.bytes l.fn.from l.end }

abbrev pub decreases-loop-end : goal.decreases-loop-end
decreases-loop-end l = length l.bytes - l.end
