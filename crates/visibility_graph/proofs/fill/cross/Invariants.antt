-- The line has its crossings with the others so far.
use Rattle.std.proofs.Common.{take}
use Rattle.std.specs.Prelude.{filter}
use Rattle.visibility_graph.specs.Meeting.{meets}
use Rattle.visibility_graph.specs.Fill.{IsCrossed}
use Rattle.visibility_graph.proofs.fill.cross.Given as goal

abbrev pub invariant-loop-other : goal.invariant-loop-other
invariant-loop-other l = IsCrossed l.initial.arena l.arena l.id l.line.way (filter (meets l.line) (take l.other-index l.here))
