-- The spans so far are those of those of the bars so far that are open.
use Rattle.std.proofs.Common.{take}
use Rattle.sweep_lines.specs.Open.{AreSpansOf, HasBegun}
use Rattle.sweep_lines.proofs.bar.open_before.Given as goal

abbrev pub invariant-loop-number : goal.invariant-loop-number
invariant-loop-number l = AreSpansOf (take l.number l.bars) (HasBegun l.at) l.index
