-- The scene as a reply: how much it has, its settings, its boxes with their pins, and its connectors with their checkpoints.
use Rattle.std.specs.Prelude.{ℕ, ℤ, pos, ◌*ℤ◌, Bool, true, false, List, [], ◌++◌, length, codes, decimal, Option, None, Some}
use Rattle.std.specs.Fmt.{signed_decimal}
use Rattle.std.specs.List.{flat_map}
use Rattle.fixed_milli.specs.Milli.{milli_text, size_text}
use Rattle.plane_geom.specs.declared.point.Point.{Point}
use Rattle.walk_model.specs.declared.route.Answer.{Answer}
use Rattle.scene_model.specs.declared.edge.Edge.{Edge}
use Rattle.scene_model.specs.declared.node.Node.{Node}
use Rattle.scene_model.specs.declared.pin.Pin.{Pin}
use Rattle.scene_model.specs.declared.settings.Settings.{Settings}
use Rattle.scene_model.specs.Letters.{letters}
use Rattle.scene_model.specs.Scene.{Scene}
use Rattle.scene_model.specs.Stale.{answer_of}
use Rattle.report_text.specs.Lines.{line}
use Rattle.drawing.specs.Drawing.{cost_of}
use Rattle.live_replies.specs.Texts.{corner_text}

-- how many boxes and how many connectors there are
abbrev pub counts_line : Scene → List ℕ
counts_line s = line (codes "scene " ++ decimal (length s.nodes) ++ codes " " ++ decimal (length s.edges))

-- two lengths, with a space before each
abbrev pub lengths_text : ℤ → ℤ → List ℕ
lengths_text x y = corner_text (record { x = x; y = y })

-- the settings
abbrev pub settings_line : Settings → List ℕ
settings_line s = line (codes "settings" ++ lengths_text s.penalty s.buffer ++ codes " " ++ milli_text s.nudge)

-- a pin: its class, its place from the centre of its box, and the directions in which lines may leave it
abbrev pub pin_line : Pin → List ℕ
pin_line p = line (codes "pin " ++ decimal p.class ++ lengths_text p.dx p.dy ++ codes " " ++ letters p.dirs)

abbrev pub group_text : Bool → List ℕ
group_text true = codes " group"
group_text false = []

-- the id of a box, and its centre
abbrev pub place_text : Node → List ℕ
place_text n = codes "box " ++ signed_decimal n.id ++ lengths_text n.x n.y

-- its whole size
abbrev pub size_of : Node → List ℕ
size_of n = lengths_text (pos 2 *ℤ n.half_w) (pos 2 *ℤ n.half_h)

-- a box: its id, its centre, its size, and whether it is a group; and then its pins
abbrev pub box_line : Node → List ℕ
box_line n = line (place_text n ++ size_of n ++ group_text n.group)

abbrev pub box_lines : Node → List ℕ
box_lines n = box_line n ++ flat_map pin_line n.pins

-- what the route of a connector costs, if it has one
abbrev pub cost_text : Option ℕ → List ℕ
cost_text None = codes "no route"
cost_text (Some cost) = codes "cost " ++ size_text cost

abbrev pub checkpoint_line : Point → List ℕ
checkpoint_line p = line (codes "checkpoint" ++ corner_text p)

-- the boxes at the ends of a connector, and the classes of its pins there
abbrev pub ids_text : Edge → List ℕ
ids_text e = (codes " " ++ signed_decimal e.from) ++ codes " " ++ signed_decimal e.to

abbrev pub classes_text : Edge → List ℕ
classes_text e = (codes " " ++ decimal e.from_class) ++ codes " " ++ decimal e.to_class

abbrev pub ends_text : Edge → List ℕ
ends_text e = (codes "connector " ++ decimal e.number) ++ ids_text e ++ classes_text e

-- a connector: its number, its ends, and what its route in the present scene costs; and then its checkpoints
abbrev pub connector_line : List Answer → Edge → List ℕ
connector_line answers e = line (ends_text e ++ codes " " ++ cost_text (cost_of (answer_of answers e.number)))

abbrev pub connector_lines : List Answer → Edge → List ℕ
connector_lines answers e = connector_line answers e ++ flat_map checkpoint_line e.via

-- the whole scene, by the answers of the present one
abbrev pub scene_lines : Scene → List Answer → List ℕ
scene_lines s answers = counts_line s ++ settings_line s.settings ++ flat_map box_lines s.nodes ++ flat_map (connector_lines answers) s.edges
