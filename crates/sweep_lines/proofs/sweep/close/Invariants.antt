-- The spans are those that end with none of the marks so far.
use Rattle.std.proofs.Common.{◌≡◌}
use Rattle.std.specs.Prelude.{filter}
use Rattle.sweep_lines.proofs.Loops.{still}
use Rattle.sweep_lines.proofs.sweep.close.Given as goal

abbrev pub invariant-loop-mark : goal.invariant-loop-mark
invariant-loop-mark l = l.index ≡ filter (still l.here l.mark-index) l.initial.index
