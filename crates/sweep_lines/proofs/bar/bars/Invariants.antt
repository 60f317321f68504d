-- The bars so far are those of the solids so far.
use Rattle.std.proofs.Common.{◌≡◌, take}
use Rattle.sweep_lines.specs.Bars.{bars_of}
use Rattle.sweep_lines.proofs.bar.bars.Given as goal

abbrev pub invariant-loop-solid : goal.invariant-loop-solid
invariant-loop-solid g l = l.bars.items ≡ bars_of g.A.Axis.way_of (take l.solid-index l.solid-items)
