-- The extents so far are those of the sides so far.
use Rattle.std.proofs.Common.{◌≡◌, ◌++◌, take}
use Rattle.std.specs.List.{filter_map}
use Rattle.side_touches.specs.Sides.{extent_met}
use Rattle.side_touches.proofs.side.push_met.Given as goal

abbrev pub invariant-loop-side : goal.invariant-loop-side
invariant-loop-side l = l.extents.items ≡ l.initial.extents.items ++ filter_map (extent_met l.line) (take l.side-index l.here)
