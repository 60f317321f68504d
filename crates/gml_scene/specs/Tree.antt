-- The tree of a scene and its routes: the diagram's tree, changed only where the scene differs from it.
use Rattle.std.specs.Prelude.{ℕ, suc, pos, ◌==◌, ◌&&◌, Bool, false, List, codes, bytes_eq, find, filter, if◌then◌else◌}
use Rattle.std.specs.Prelude.{Option, Some, None, option_map, is_some, is_none}
use Rattle.std.specs.Ordering.{int_eq}
use Rattle.plane_geom.specs.declared.point.Point.{Point}
use Rattle.gml_text.specs.Tree.{Content, number, text, list, Pairs, no_pairs, pair, ◌then◌}
use Rattle.walk_model.specs.declared.route.WrittenRoute.{WrittenRoute}
use Rattle.scene_model.specs.declared.node.Node.{Node}
use Rattle.scene_model.specs.declared.edge.Edge.{Edge}
use Rattle.scene_model.specs.declared.settings.Settings.{Settings}
use Rattle.scene_model.specs.Scene.{Scene, default_settings}
use Rattle.diagram_read.specs.Values.{list_at}
use Rattle.gml_scene.specs.Changes.{one, all_of, change_list}
use Rattle.gml_scene.specs.Labels.{LabelLists, given_label}
use Rattle.gml_scene.specs.Forms.{node_pair, edge_pair, settings_pairs}
use Rattle.gml_scene.specs.Nodes.{node_again, put_length}
use Rattle.gml_scene.specs.Edges.{edge_again}

-- the line of the edge with the number, if it has a route
abbrev pub line_for : List WrittenRoute → ℕ → Option (List Point)
line_for routes edge = option_map (λ r. r.points) (find (λ r. r.edge == edge) routes)

-- the origin is this place of the graph list
abbrev pub is_at : ℕ → Option ℕ → Bool
is_at place None = false
is_at place (Some origin) = origin == place

-- the node, and the edge, whose origin is the place of the graph list
abbrev pub node_from : Scene → ℕ → Option Node
node_from s place = find (λ n. is_at place n.origin) s.nodes

abbrev pub edge_from : Scene → ℕ → Option Edge
edge_from s place = find (λ e. is_at place e.origin) s.edges

-- the list of a node: as the node is now, and removed if no node has it as its origin
abbrev pub kept_node : List ℕ → Pairs → Option Node → Option Node → Pairs
kept_node key inner (Some was) (Some n) = one key (list (node_again was n inner))
kept_node key inner None now = no_pairs
kept_node key inner (Some was) None = no_pairs

-- the list of an edge, in the same way
abbrev pub kept_edge : List ℕ → Pairs → List WrittenRoute → Option Edge → Option Edge → Pairs
kept_edge key inner routes (Some was) (Some e) = one key (list (edge_again was e (line_for routes e.number) inner))
kept_edge key inner routes None now = no_pairs
kept_edge key inner routes (Some was) None = no_pairs

-- a pair of the graph list: only lists of nodes and edges change
abbrev pub kept : Scene → Scene → List WrittenRoute → ℕ → List ℕ → Content → Pairs
kept was s routes place key (list inner) =
    if bytes_eq key (codes "node") then kept_node key inner (node_from was place) (node_from s place)
    else if bytes_eq key (codes "edge") then kept_edge key inner routes (edge_from was place) (edge_from s place)
    else one key (list inner)
kept was s routes place key (number bytes) = one key (number bytes)
kept was s routes place key (text bytes) = one key (text bytes)

-- the pairs of the graph list, of which the first has this place
abbrev pub kept_from : Scene → Scene → List WrittenRoute → ℕ → Pairs → Pairs
kept_from was s routes place no_pairs = no_pairs
kept_from was s routes place (pair key value rest) = kept was s routes place key value then kept_from was s routes (suc place) rest

-- the settings in the first `router` that is a list
abbrev pub put_settings : Settings → Settings → Pairs → Pairs
put_settings was t router =
    put_length (codes "nudge") was.nudge t.nudge
    (put_length (codes "buffer") was.buffer t.buffer
    (put_length (codes "penalty") was.penalty t.penalty router))

abbrev pub settings_eq : Settings → Settings → Bool
settings_eq a b = int_eq a.penalty b.penalty && int_eq a.buffer b.buffer && int_eq a.nudge b.nudge

-- the `router` of a graph list that had none; no pair if the settings are the default ones
abbrev pub router_pairs : Settings → Pairs
router_pairs t = if settings_eq t default_settings then no_pairs else one (codes "router") (list (settings_pairs t))

-- the pairs of the nodes, and of the edges, that edits added, with their labels
abbrev pub new_nodes : LabelLists → List Node → Pairs
new_nodes labels nodes = all_of (λ n. node_pair (given_label labels.nodes n.id) n) (filter (λ n. is_none n.origin) nodes)

abbrev pub new_edges : LabelLists → List WrittenRoute → List Edge → Pairs
new_edges labels routes edges =
    all_of (λ e. edge_pair (given_label labels.edges (pos e.number)) (line_for routes e.number) e) (filter (λ e. is_none e.origin) edges)

-- the pairs that are appended to the graph list
abbrev pub appended : Scene → LabelLists → List WrittenRoute → Bool → Pairs
appended s labels routes has_router =
    (if has_router then no_pairs else router_pairs s.settings)
    then (new_nodes labels s.nodes then new_edges labels routes s.edges)

abbrev pub graph_again : Scene → Scene → LabelLists → List WrittenRoute → Pairs → Pairs
graph_again was s labels routes graph =
    change_list (codes "router") (put_settings was.settings s.settings) (kept_from was s routes 0 graph)
    then appended s labels routes (is_some (list_at (codes "router") graph))

-- the tree of a scene with these labels and routes, where `was` is the scene that is read from the diagram's tree
abbrev pub tree_of : Pairs → Scene → Scene → LabelLists → List WrittenRoute → Pairs
tree_of tree was s labels routes = change_list (codes "graph") (graph_again was s labels routes) tree
