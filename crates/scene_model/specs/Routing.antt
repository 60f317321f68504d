-- What routing uses of a scene: solids, choices, tasks and the floor.
use Rattle.std.specs.Prelude.{ℕ, ◌==◌, ℤ, pos, ◌+ℤ◌, ◌-ℤ◌, unsigned_abs, true, List, [], ◌∷◌, ◌++◌, map, filter, flat_map, Option, Some, None, if◌then◌else◌}
use Rattle.plane_geom.specs.declared.point.Point.{Point}
use Rattle.plane_geom.specs.declared.point.Dir.{Dir}
use Rattle.plane_geom.specs.declared.point.Dir.TheVariants.{East, South, West, North}
use Rattle.plane_geom.specs.declared.rect.Rect.{Rect}
use Rattle.plane_geom.specs.declared.rect.Solid.{Solid}
use Rattle.plane_geom.specs.declared.floor.Floor.{Floor}
use Rattle.plane_geom.specs.Rect.{grown}
use Rattle.walk_model.specs.declared.task.Choice.{Choice}
use Rattle.walk_model.specs.declared.task.Task.{Task}
use Rattle.scene_model.specs.declared.node.Node.{Node}
use Rattle.scene_model.specs.declared.edge.Edge.{Edge}
use Rattle.scene_model.specs.declared.pin.Pin.{Pin}
use Rattle.scene_model.specs.declared.pin.Dirs.{Dirs}
use Rattle.scene_model.specs.Scene.{Scene, node_with, connectors}

-- the box of a node, and the box grown by the buffer
abbrev pub box : Node → Rect
box n = record { left = n.x -ℤ n.half_w; top = n.y -ℤ n.half_h; right = n.x +ℤ n.half_w; bottom = n.y +ℤ n.half_h }

abbrev pub buffered_box : ℤ → Node → Rect
buffered_box buffer n = grown (box n) buffer

-- the solid of a node, which only routes of its own may enter; a group has none
abbrev pub solid_of : ℤ → Node → List Solid
solid_of buffer n = if n.group then [] else record { node = n.id; rect = buffered_box buffer n } ∷ []

abbrev pub solids : Scene → List Solid
solids s = flat_map (solid_of s.settings.buffer) s.nodes

-- the pin of class 0
abbrev pub centre_pin : Pin
centre_pin = record { class = 0; dx = pos 0; dy = pos 0; dirs = record { east = true; south = true; west = true; north = true }; cost = pos 0 }

-- the pins that an end with this class may use
abbrev pub pins_of_class : Node → ℕ → List Pin
pins_of_class n class = if class == 0 then centre_pin ∷ [] else filter (λ p. p.class == class) n.pins

-- the place of the pin of the node
abbrev pub place_of : Node → Pin → Point
place_of n p = record { x = n.x +ℤ p.dx; y = n.y +ℤ p.dy }

-- the point where the straight line from the place meets the edge of the rectangle
abbrev pub port : Rect → Point → Dir → Point
port r p East = record { x = r.right; y = p.y }
port r p South = record { x = p.x; y = r.bottom }
port r p West = record { x = r.left; y = p.y }
port r p North = record { x = p.x; y = r.top }

-- a pin of the node with one of its directions
abbrev pub choice : ℤ → Node → Pin → Dir → Choice
choice buffer n p d =
    record { node = n.id; pin = place_of n p; dir = d; port = port (buffered_box buffer n) (place_of n p) d; cost = unsigned_abs p.cost }

-- the directions that are set, in order
abbrev pub directions : Dirs → List Dir
directions d =
    (if d.east then East ∷ [] else []) ++ ((if d.south then South ∷ [] else []) ++ ((if d.west then West ∷ [] else []) ++ (if d.north then North ∷ [] else [])))

-- the choices of pins, each with its directions in order
abbrev pub choices_of : ℤ → Node → List Pin → List Choice
choices_of buffer n ps = flat_map (λ p. map (choice buffer n p) (directions p.dirs)) ps

-- the choices of an end with this class at the node; none if there is no node
abbrev pub choices_with : ℤ → ℕ → Option Node → List Choice
choices_with buffer class None = []
choices_with buffer class (Some n) = choices_of buffer n (pins_of_class n class)

-- the task of an edge
abbrev pub task_of : Scene → Edge → Task
task_of s e = record {
  starts = choices_with s.settings.buffer e.from_class (node_with s e.from);
  ends = choices_with s.settings.buffer e.to_class (node_with s e.to);
  via = e.via;
  penalty = unsigned_abs s.settings.penalty;
}

-- the ports of all choices, in the order of nodes and pins, and then the checkpoints of all connectors
abbrev pub anchors : Scene → List Point
anchors s =
    flat_map (λ n. map (λ c. c.port) (choices_of s.settings.buffer n (centre_pin ∷ n.pins))) s.nodes
    ++ flat_map (λ e. e.via) (connectors s)

-- the floor of the scene, of which a graph is built
abbrev pub floor_of : Scene → Floor
floor_of s = record { solids = solids s; anchors = anchors s }
