-- The solids so far are those of the nodes so far.
use Rattle.std.specs.Prelude.{◌≡◌, take}
use Rattle.std.specs.List.{flat_map}
use Rattle.scene_model.specs.Routing.{solid_of}
use Rattle.scene_store.proofs.routing.solids.Given as goal

abbrev pub invariant-loop-node : goal.invariant-loop-node
invariant-loop-node l = l.solids.items ≡ flat_map (solid_of l.parts.settings.buffer) (take l.node-index l.node-items)
