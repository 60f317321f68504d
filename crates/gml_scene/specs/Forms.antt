-- The forms in which numbers, points, lines, pins, settings, and whole nodes and edges are written.
use Rattle.std.specs.Prelude.{ℕ, ◌==◌, ℤ, pos, ◌*ℤ◌, List, [], ◌∷◌, codes, decimal, Option, Some, None, if◌then◌else◌}
use Rattle.std.specs.Ordering.{int_eq}
use Rattle.std.specs.Fmt.{signed_decimal}
use Rattle.plane_geom.specs.declared.point.Point.{Point}
use Rattle.fixed_milli.specs.Milli.{milli_text}
use Rattle.gml_text.specs.Tree.{Content, number, text, list, Pairs, no_pairs, ◌then◌}
use Rattle.scene_model.specs.declared.node.Node.{Node}
use Rattle.scene_model.specs.declared.edge.Edge.{Edge}
use Rattle.scene_model.specs.declared.pin.Pin.{Pin}
use Rattle.scene_model.specs.declared.settings.Settings.{Settings}
use Rattle.scene_model.specs.Letters.{letters}
use Rattle.gml_scene.specs.Changes.{one, all_of}

-- a length in units, with three digits after the decimal point
abbrev pub length_content : ℤ → Content
length_content z = number (milli_text z)

-- a class as a plain whole number
abbrev pub class_content : ℕ → Content
class_content class = number (decimal class)

-- an id, in the same way
abbrev pub id_content : ℤ → Content
id_content id = number (signed_decimal id)

-- the two coordinates of a point
abbrev pub point_pairs : Point → Pairs
point_pairs p = one (codes "x") (length_content p.x) then one (codes "y") (length_content p.y)

-- the pairs that a cost adds to a pin's pairs: none if it is 0
abbrev pub cost_pairs : ℤ → Pairs
cost_pairs cost = if int_eq cost (pos 0) then no_pairs else one (codes "cost") (length_content cost)

abbrev pub pin_pairs : Pin → Pairs
pin_pairs p =
    one (codes "class") (class_content p.class)
    then (one (codes "x") (length_content p.dx)
    then (one (codes "y") (length_content p.dy)
    then (one (codes "dirs") (text (letters p.dirs))
    then cost_pairs p.cost)))

abbrev pub pin_pair : Pin → Pairs
pin_pair p = one (codes "pin") (list (pin_pairs p))

abbrev pub via_pair : Point → Pairs
via_pair p = one (codes "via") (list (point_pairs p))

abbrev pub line_point : Point → Pairs
line_point p = one (codes "point") (list (point_pairs p))

-- a line contains its points and nothing else
abbrev pub line_content : List Point → Content
line_content points = list (all_of line_point points)

-- the `graphics` of an edge that had none: the line, if there is one
abbrev pub line_pairs : Option (List Point) → Pairs
line_pairs None = no_pairs
line_pairs (Some points) = one (codes "graphics") (list (one (codes "Line") (line_content points)))

-- centre and size
abbrev pub box_pairs : Node → Pairs
box_pairs n =
    one (codes "x") (length_content n.x)
    then (one (codes "y") (length_content n.y)
    then (one (codes "w") (length_content (pos 2 *ℤ n.half_w))
    then one (codes "h") (length_content (pos 2 *ℤ n.half_h))))

-- the pair of a label; none if it is empty
abbrev pub label_pairs : List ℕ → Pairs
label_pairs [] = no_pairs
label_pairs (b ∷ bytes) = one (codes "label") (text (b ∷ bytes))

abbrev pub node_pairs : List ℕ → Node → Pairs
node_pairs label n =
    one (codes "id") (id_content n.id)
    then (label_pairs label
    then (one (codes "graphics") (list (box_pairs n)) then all_of pin_pair n.pins))

abbrev pub node_pair : List ℕ → Node → Pairs
node_pair label n = one (codes "node") (list (node_pairs label n))

-- the pair of a class of an edge's end; none if it is 0
abbrev pub class_pairs : List ℕ → ℕ → Pairs
class_pairs key class = if class == 0 then no_pairs else one key (class_content class)

abbrev pub edge_pairs : List ℕ → Option (List Point) → Edge → Pairs
edge_pairs label line e =
    one (codes "source") (id_content e.from)
    then (one (codes "target") (id_content e.to)
    then (label_pairs label
    then (class_pairs (codes "sourcePin") e.from_class
    then (class_pairs (codes "targetPin") e.to_class
    then (all_of via_pair e.via
    then line_pairs line)))))

abbrev pub edge_pair : List ℕ → Option (List Point) → Edge → Pairs
edge_pair label line e = one (codes "edge") (list (edge_pairs label line e))

abbrev pub settings_pairs : Settings → Pairs
settings_pairs t =
    one (codes "penalty") (length_content t.penalty)
    then (one (codes "buffer") (length_content t.buffer)
    then one (codes "nudge") (length_content t.nudge))
