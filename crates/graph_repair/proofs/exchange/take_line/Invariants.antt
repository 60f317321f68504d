-- Some crossings of the line have gone, and with each there are fewer.
use Rattle.std.specs.FinMap.{len}
use Rattle.graph_repair.proofs.Taken.{IsEmptied}
use Rattle.graph_repair.proofs.exchange.take_line.Given as goal

abbrev pub invariant-loop-crossing : goal.invariant-loop-crossing
invariant-loop-crossing l = IsEmptied l.initial.arena l.arena l.id

abbrev pub decreases-loop-crossing : goal.decreases-loop-crossing
decreases-loop-crossing l = len l.arena.crossings
