-- What holds while a number goes on.
use Rattle.std.proofs.Common.{◌<◌, ◌≤◌, ◌-◌, length}
use Rattle.gml_text.specs.Standing.{EndsNumber}
use Rattle.gml_text.proofs.scan.number_end.Given as goal

abbrev pub invariant-loop-end : goal.invariant-loop-end
invariant-loop-end l = record { after : l.fn.at < l.end; within : l.end ≤ length l.bytes; ends : EndsNumber l.bytes l.fn.at l.fn.begun l.end l.part }

abbrev pub decreases-loop-end : goal.decreases-loop-end
decreases-loop-end l = length l.bytes - l.end
