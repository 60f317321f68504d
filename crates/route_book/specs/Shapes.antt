-- The data of a node that a task uses. No public clause cites this module.
use Rattle.std.specs.Prelude.{◌≡◌}
use Rattle.scene_model.specs.declared.node.Node.{Node}
use Rattle.scene_model.specs.declared.edge.Edge.{Edge}
use Rattle.scene_model.specs.Routing.{box}
use Rattle.scene_model.specs.Stale.{Shape}

-- the shape of the node
abbrev pub shape_of : Node → Shape
shape_of n = record { rect = box n; group = n.group; pins = n.pins }

-- two edges have the same ends, classes and checkpoints
pub record AskSame (d e : Edge) : Type 0 where
  pub from : d.from ≡ e.from
  pub to : d.to ≡ e.to
  pub from_class : d.from_class ≡ e.from_class
  pub to_class : d.to_class ≡ e.to_class
  pub via : d.via ≡ e.via
