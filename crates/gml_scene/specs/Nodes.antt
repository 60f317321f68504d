-- The list of a node that is already in the diagram: only what differs from the node that was read changes.
use Rattle.std.specs.Prelude.{ℕ, ◌==◌, ◌&&◌, ℤ, pos, ◌*ℤ◌, Bool, List, codes, if◌then◌else◌}
use Rattle.std.specs.Bool.{beq}
use Rattle.std.specs.Cmp.Lexicographic.{pointwise}
use Rattle.std.specs.Ordering.{int_eq}
use Rattle.gml_text.specs.Tree.{Pairs, ◌then◌}
use Rattle.scene_model.specs.declared.node.Node.{Node}
use Rattle.scene_model.specs.declared.pin.Pin.{Pin}
use Rattle.scene_model.specs.declared.pin.Dirs.{Dirs}
use Rattle.gml_scene.specs.Changes.{all_of, put, without, change_list}
use Rattle.gml_scene.specs.Forms.{length_content, pin_pair}

-- two pins are the same if everything is, including directions and costs
abbrev pub dirs_eq : Dirs → Dirs → Bool
dirs_eq a b = beq a.east b.east && (beq a.south b.south && (beq a.west b.west && beq a.north b.north))

abbrev pub pin_eq : Pin → Pin → Bool
pin_eq a b = a.class == b.class && (int_eq a.dx b.dx && (int_eq a.dy b.dy && (dirs_eq a.dirs b.dirs && int_eq a.cost b.cost)))

-- a length is written if it has changed
abbrev pub put_length : List ℕ → ℤ → ℤ → Pairs → Pairs
put_length key was now pairs = if int_eq was now then pairs else put key (length_content now) pairs

-- centre and size in the `graphics`; a size is twice its half
abbrev pub put_box : Node → Node → Pairs → Pairs
put_box was n graphics =
    put_length (codes "h") (pos 2 *ℤ was.half_h) (pos 2 *ℤ n.half_h)
    (put_length (codes "w") (pos 2 *ℤ was.half_w) (pos 2 *ℤ n.half_w)
    (put_length (codes "y") was.y n.y
    (put_length (codes "x") was.x n.x graphics)))

-- all pins are replaced, appended at the end, if they have changed
abbrev pub put_pins : List Pin → List Pin → Pairs → Pairs
put_pins was pins pairs = if pointwise pin_eq was pins then pairs else without (codes "pin") pairs then all_of pin_pair pins

-- the pairs of a node that was read as the first one and is now the second
abbrev pub node_again : Node → Node → Pairs → Pairs
node_again was n pairs = put_pins was.pins n.pins (change_list (codes "graphics") (put_box was n) pairs)
