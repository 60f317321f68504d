-- The contents of a scene, and the look-ups in it.
use Rattle.std.specs.Prelude.{ℕ, ◌==◌, ◌||◌, ℤ, pos, Bool, not, List, [], length, filter, Option, find}
use Rattle.std.specs.Ordering.{int_eq}
use Rattle.std.specs.List.{list_any, sum_by}
use Rattle.scene_model.specs.declared.node.Node.{Node}
use Rattle.scene_model.specs.declared.edge.Edge.{Edge}
use Rattle.scene_model.specs.declared.settings.Settings.{Settings}

-- the model of a scene
pub record Scene : Type 0 where
  pub nodes : List Node
  pub edges : List Edge
  pub settings : Settings
  pub next_edge : ℕ

-- the default settings and the empty scene
abbrev pub default_settings : Settings
default_settings = record { penalty = pos 50000; buffer = pos 4000; nudge = pos 4000 }

abbrev pub empty_scene : Scene
empty_scene = record { nodes = []; edges = []; settings = default_settings; next_edge = 1 }

-- the node with the id, and the edge with the number
abbrev pub node_with : Scene → ℤ → Option Node
node_with s id = find (λ n. int_eq n.id id) s.nodes

abbrev pub edge_with : Scene → ℕ → Option Edge
edge_with s number = find (λ e. e.number == number) s.edges

-- both its ends are at one node
abbrev pub is_loop : Edge → Bool
is_loop e = int_eq e.from e.to

-- the edges that are not loops
abbrev pub connectors : Scene → List Edge
connectors s = filter (λ e. not (is_loop e)) s.edges

-- class 0 is the centre's
abbrev pub has_class : Node → ℕ → Bool
has_class n class = class == 0 || list_any (λ p. p.class == class) n.pins

-- the number of pins that were added, and the number of checkpoints
abbrev pub pin_count : Scene → ℕ
pin_count s = sum_by (λ n. length n.pins) s.nodes

abbrev pub via_count : Scene → ℕ
via_count s = sum_by (λ e. length e.via) s.edges
