-- The solids so far are those of the rectangles so far.
use Rattle.std.proofs.Common.{◌≡◌, take}
use Rattle.std.specs.Prelude.{filter_map}
use Rattle.floor_tests.specs.Small.{solid_of_sides}
use Rattle.floor_tests.proofs.small.solids_of.Given as goal

abbrev pub invariant-loop-sides : goal.invariant-loop-sides
invariant-loop-sides l = l.solids.items ≡ filter_map solid_of_sides (take l.sides-index l.rects)
