-- The sides of the bars so far come after what was there.
use Rattle.std.proofs.Common.{◌≡◌, ◌++◌, take}
use Rattle.sweep_lines.specs.Marks.{sides_from}
use Rattle.sweep_lines.proofs.mark.push_sides.Given as goal

abbrev pub invariant-loop-number : goal.invariant-loop-number
invariant-loop-number l = l.marks.items ≡ l.initial.marks.items ++ sides_from 0 (take l.number l.bars)
