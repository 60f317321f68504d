-- The solids so far are those that went of the nodes so far.
use Rattle.std.proofs.Common.{take, All}
use Rattle.std.specs.Prelude.{Contains}
use Rattle.std.specs.List.{flat_map}
use Rattle.plane_geom.specs.declared.rect.Solid.{Solid}
use Rattle.scene_model.specs.Routing.{solid_of, solids}
use Rattle.scene_model.specs.Stale.{IsRemoved}
use Rattle.route_book.proofs.shapes.removed.Given as goal

abbrev pub invariant-loop-node : goal.invariant-loop-node
invariant-loop-node l =
    All (IsRemoved l.old l.new) l.removed.items
    × ((s : Solid) → Contains (flat_map (solid_of l.old.settings.buffer) (take l.node-index l.old.nodes)) s → (Contains (solids l.new) s → ⊥) → Contains l.removed.items s)
