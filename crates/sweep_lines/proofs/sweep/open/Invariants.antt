-- The spans are the old ones and those that begin with the marks so far.
use Rattle.std.proofs.Common.{take}
use Rattle.sweep_lines.specs.Open.{AreOpened}
use Rattle.sweep_lines.proofs.sweep.open.Given as goal

abbrev pub invariant-loop-mark : goal.invariant-loop-mark
invariant-loop-mark l = AreOpened (take l.mark-index l.here) l.initial.index l.index
