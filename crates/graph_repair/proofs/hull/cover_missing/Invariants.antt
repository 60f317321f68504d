-- The hull has grown, and covers what was missing so far.
use Rattle.std.proofs.Common.{take}
use Rattle.graph_repair.proofs.Covering.{Covers}
use Rattle.graph_repair.proofs.hull.cover_missing.Given as goal

abbrev pub invariant-loop-place : goal.invariant-loop-place
invariant-loop-place g l = Covers g.T.Placed.near_of g.T.Placed.far_of l.fn.hull l.hull (take l.place l.items) l.others
