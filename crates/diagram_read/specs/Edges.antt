-- The edges of a diagram.
use Rattle.std.specs.Prelude.{ℕ, suc, ◌+◌, ◌-◌, ◌||◌, ◌&&◌, ℤ, nat_le, List, [], ◌∷◌, ◌++◌, length, codes, Option, Some, None, option_and_then, Result, Ok, if◌then◌else◌}
use Rattle.std.specs.Ordering.{int_eq}
use Rattle.plane_geom.specs.declared.point.Point.{Point}
use Rattle.gml_text.specs.Tree.{Content, number, text, list}
use Rattle.scene_model.specs.declared.node.Node.{Node}
use Rattle.scene_model.specs.declared.edge.Edge.{Edge}
use Rattle.scene_model.specs.Scene.{Scene, node_with, has_class, via_count}
use Rattle.scene_model.specs.Loads.{with_edge}
use Rattle.diagram_read.specs.declared.fault.Part.TheVariants as part
use Rattle.diagram_read.specs.declared.fault.DiagramFault.{DiagramFault}
use Rattle.diagram_read.specs.declared.fault.DiagramFault.TheVariants.{BadEnd, TooMany, BadVia, BadWeight}
use Rattle.diagram_read.specs.Values.{ListEntry, value_at, values_at, id_of, class_of}
use Rattle.diagram_read.specs.Faults.{◌>>=◌, need, refuse, each}
use Rattle.diagram_read.specs.Checkpoints.{checkpoint_of}

-- the node that an end names
abbrev pub end_node : Scene → Option Content → Option Node
end_node s value = option_and_then (node_with s) (option_and_then id_of value)

-- the class, if the node has it
abbrev pub own_class : Node → ℕ → Option ℕ
own_class n class = if has_class n class then Some class else None

-- the class of the pins that an end at the node may use; 0 if none is given
abbrev pub class_in : Node → Option Content → Option ℕ
class_in n None = Some 0
class_in n (Some value) = option_and_then (own_class n) (class_of value)

-- one digit from 1 to 4
abbrev pub weight_of : List ℕ → Option ℕ
weight_of [] = None
weight_of (b ∷ []) = if nat_le 49 b && nat_le b 52 then Some (b - 48) else None
weight_of (b ∷ c ∷ more) = None

-- the weight of a connector; 1 if none is given
abbrev pub weight_in : Option Content → Option ℕ
weight_in None = Some 1
weight_in (Some (number bytes)) = weight_of bytes
weight_in (Some (text bytes)) = None
weight_in (Some (list inner)) = None

-- one more checkpoint of the edge, where the edges before it have `before` checkpoints
abbrev pub with_via : ℕ → ℕ → List Point → Content → Result (List Point) DiagramFault
with_via place before points value = do
  few ← refuse (TooMany part.Via) (nat_le 4 (length points) || nat_le 256 (before + length points))
  point ← need (BadVia place) (checkpoint_of value)
  Ok (points ++ point ∷ [])

-- an edge from a node to itself; nothing else of it is read
abbrev pub loop_at : ℕ → ℤ → ℕ → Edge
loop_at place id origin =
    record { number = place; from = id; to = id; from_class = 0; to_class = 0; via = []; origin = Some origin; weight = 1 }

-- an edge between two nodes, where the edges before it have `before` checkpoints
abbrev pub connector_in : ℕ → ℕ → Node → Node → ListEntry → Result Edge DiagramFault
connector_in place before from to entry = do
  from_class ← need (BadEnd place) (class_in from (value_at (codes "sourcePin") entry.1))
  to_class ← need (BadEnd place) (class_in to (value_at (codes "targetPin") entry.1))
  via ← each (with_via place before) [] (values_at (codes "via") entry.1)
  weight ← need (BadWeight place) (weight_in (value_at (codes "nudgeWeight") entry.1))
  Ok (record {
    number = place;
    from = from.id;
    to = to.id;
    from_class = from_class;
    to_class = to_class;
    via = via;
    origin = Some entry.0;
    weight = weight;
  })

-- the edge of a list, after the edges of the scene
abbrev pub edge_in : Scene → ListEntry → Result Edge DiagramFault
edge_in s entry = do
  let place = suc (length s.edges)
  few ← refuse (TooMany part.Edge) (nat_le 512 (length s.edges))
  from ← need (BadEnd place) (end_node s (value_at (codes "source") entry.1))
  to ← need (BadEnd place) (end_node s (value_at (codes "target") entry.1))
  if int_eq from.id to.id then Ok (loop_at place from.id entry.0) else connector_in place (via_count s) from to entry

-- the scene with the edge of the list, and with the edges of all lists
abbrev pub with_edge_in : Scene → ListEntry → Result Scene DiagramFault
with_edge_in s entry = do
  e ← edge_in s entry
  Ok (with_edge e s)

abbrev pub with_edges_in : Scene → List ListEntry → Result Scene DiagramFault
with_edges_in s entries = each with_edge_in s entries
