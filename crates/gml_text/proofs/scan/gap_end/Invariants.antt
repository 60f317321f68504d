-- What holds while white space and comments go on.
use Rattle.std.proofs.Common.{◌≤◌, ◌-◌, length}
use Rattle.gml_text.specs.Standing.{EndsGap}
use Rattle.gml_text.proofs.scan.gap_end.Given as goal

abbrev pub invariant-loop-end : goal.invariant-loop-end
invariant-loop-end l = record { after : l.fn.from ≤ l.end; within : l.end ≤ length l.bytes; ends : EndsGap l.bytes l.fn.from l.end }

abbrev pub decreases-loop-end : goal.decreases-loop-end
decreases-loop-end l = length l.bytes - l.end
