-- The hull of the extents so far.
use Rattle.std.proofs.Common.{take}
use Rattle.side_touches.specs.Extents.{IsHull}
use Rattle.side_touches.proofs.extent.hull.Given as goal

abbrev pub invariant-loop-extent : goal.invariant-loop-extent
invariant-loop-extent l = IsHull (take l.extent-index l.extents) l.hull
