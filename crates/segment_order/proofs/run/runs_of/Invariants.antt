-- The runs so far are those through the corners so far.
use Rattle.std.proofs.Common.{◌≡◌}
use Rattle.std.specs.Prelude.{take}
use Rattle.segment_order.specs.Run.{runs_along}
use Rattle.segment_order.proofs.run.runs_of.Given as goal

abbrev pub invariant-loop-k : goal.invariant-loop-k
invariant-loop-k g l = l.runs.items ≡ runs_along l.edge 1 (take l.k l.points)
