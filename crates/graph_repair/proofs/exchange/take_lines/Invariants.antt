-- The lines so far have gone.
use Rattle.std.proofs.Common.{take}
use Rattle.graph_repair.specs.Take.{AreTaken}
use Rattle.graph_repair.proofs.exchange.take_lines.Given as goal

abbrev pub invariant-loop-line : goal.invariant-loop-line
invariant-loop-line l = AreTaken l.initial.arena l.arena (take l.line-index l.lines)
