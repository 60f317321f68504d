-- The last place for the extents so far.
use Rattle.std.proofs.Common.{take}
use Rattle.side_touches.specs.Extents.{IsLastPlace}
use Rattle.side_touches.proofs.extent.last_place.Given as goal

abbrev pub invariant-loop-extent : goal.invariant-loop-extent
invariant-loop-extent l = IsLastPlace l.fn.heading l.fn.at (take l.extent-index l.extents) l.last
