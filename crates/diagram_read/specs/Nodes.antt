-- The nodes of a diagram.
use Rattle.std.specs.Prelude.{ℕ, suc, ◌+◌, ◌||◌, ℤ, pos, int_lt, Bool, false, nat_le, List, [], ◌∷◌, ◌++◌, length, codes, Option, Some, None, option_and_then, is_some, Result, Ok, Err}
use Rattle.std.specs.Ordering.{int_eq}
use Rattle.fixed_milli.specs.declared.milli.MilliFault.{MilliFault}
use Rattle.gml_text.specs.Tree.{Content}
use Rattle.scene_model.specs.declared.node.Node.{Node}
use Rattle.scene_model.specs.Scene.{Scene, node_with, pin_count}
use Rattle.scene_model.specs.Edits.{half, is_off}
use Rattle.scene_model.specs.Loads.{with_node}
use Rattle.diagram_read.specs.declared.fault.Part.TheVariants as part
use Rattle.diagram_read.specs.declared.fault.DiagramFault.{DiagramFault}
use Rattle.diagram_read.specs.declared.fault.DiagramFault.TheVariants.{BadId, SameId, NoPlace, BadNumber, OutOfRange, TooMany, BadPin}
use Rattle.diagram_read.specs.Values.{ListEntry, value_at, values_at, as_list, milli_of, in_range, number_in, is_no_number, id_of}
use Rattle.diagram_read.specs.Faults.{◌>>=◌, need, refuse, each}
use Rattle.diagram_read.specs.Pins.{pin_of}

-- a width or a height, which is 30 units if it is missing
abbrev pub size_in : Option Content → Result ℤ MilliFault
size_in None = Ok (pos 30000)
size_in (Some value) = milli_of value

-- the number marks a group: it is read as one unit
abbrev pub is_group_mark : Result ℤ MilliFault → Bool
is_group_mark (Ok value) = int_eq value (pos 1000)
is_group_mark (Err fault) = false

-- the node of a list with this centre and size, without its pins; the place is that among the nodes
abbrev pub boxed : ℕ → ℤ → ListEntry → Result ℤ MilliFault → Result ℤ MilliFault → Result ℤ MilliFault → Result ℤ MilliFault → Result Node DiagramFault
boxed place id entry x y w h = do
  numbers ← refuse (BadNumber part.Node place) (is_no_number x || (is_no_number y || (is_no_number w || is_no_number h)))
  x ← need (OutOfRange part.Node place) (in_range x)
  y ← need (OutOfRange part.Node place) (in_range y)
  w ← need (OutOfRange part.Node place) (in_range w)
  h ← need (OutOfRange part.Node place) (in_range h)
  sizes ← refuse (OutOfRange part.Node place) (int_lt w (pos 0) || int_lt h (pos 0))
  corners ← refuse (OutOfRange part.Node place) (is_off x (half w) || is_off y (half h))
  Ok (record {
    id = id;
    x = x;
    y = y;
    half_w = half w;
    half_h = half h;
    group = is_group_mark (number_in (value_at (codes "isGroup") entry.1));
    pins = [];
    origin = Some entry.0;
  })

-- the same, with the centre and size of its `graphics`
abbrev pub bare_node : ℕ → ℤ → ListEntry → Result Node DiagramFault
bare_node place id entry = do
  graphics ← need (NoPlace place) (option_and_then as_list (value_at (codes "graphics") entry.1))
  x ← need (NoPlace place) (value_at (codes "x") graphics)
  y ← need (NoPlace place) (value_at (codes "y") graphics)
  boxed place id entry (milli_of x) (milli_of y) (size_in (value_at (codes "w") graphics)) (size_in (value_at (codes "h") graphics))

-- one more pin of the node, where the nodes before it have `before` pins
abbrev pub with_pin : ℕ → ℕ → Node → Content → Result Node DiagramFault
with_pin place before n value = do
  few ← refuse (TooMany part.Pin) (nat_le 256 (before + length n.pins))
  pin ← need (BadPin place) (pin_of n value)
  Ok (record n { pins = n.pins ++ pin ∷ [] })

-- the node of a list, after the nodes of the scene
abbrev pub node_in : Scene → ListEntry → Result Node DiagramFault
node_in s entry = do
  let place = suc (length s.nodes)
  few ← refuse (TooMany part.Node) (nat_le 256 (length s.nodes))
  id ← need (BadId place) (option_and_then id_of (value_at (codes "id") entry.1))
  new ← refuse (SameId place) (is_some (node_with s id))
  bare ← bare_node place id entry
  each (with_pin place (pin_count s)) bare (values_at (codes "pin") entry.1)

-- the scene with the node of the list, and with the nodes of all lists
abbrev pub with_node_in : Scene → ListEntry → Result Scene DiagramFault
with_node_in s entry = do
  n ← node_in s entry
  Ok (with_node n s)

abbrev pub with_nodes_in : Scene → List ListEntry → Result Scene DiagramFault
with_nodes_in s entries = each with_node_in s entries
