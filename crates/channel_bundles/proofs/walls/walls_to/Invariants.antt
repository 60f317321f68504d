-- The walls so far are those of the solids so far.
use Rattle.std.proofs.Common.{◌≡◌, map, take}
use Rattle.channel_bundles.specs.Walls.{wall_of}
use Rattle.channel_bundles.proofs.walls.walls_to.Given as goal

abbrev pub invariant-loop-solid : goal.invariant-loop-solid
invariant-loop-solid l = l.walls.items ≡ map (wall_of l.dir) (take l.solid-index l.solids)
