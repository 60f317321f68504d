-- The list of a pin.
use Rattle.std.specs.Prelude.{ℕ, ◌==◌, ◌||◌, ◌^◌, ℤ, pos, int_lt, codes, Option, Some, None, option_and_then, if◌then◌else◌}
use Rattle.fixed_milli.specs.Steps.{◌>>=◌}
use Rattle.gml_text.specs.Tree.{Content, number, text, list}
use Rattle.scene_model.specs.declared.node.Node.{Node}
use Rattle.scene_model.specs.declared.pin.Pin.{Pin}
use Rattle.scene_model.specs.declared.pin.Dirs.{Dirs}
use Rattle.scene_model.specs.Edits.{is_outside}
use Rattle.scene_model.specs.Letters.{dirs_of}
use Rattle.scene_model.specs.Routing.{centre_pin}
use Rattle.diagram_read.specs.Values.{value_at, as_list, in_range, exact_at, milli_of, class_of}

-- an added pin has a class of its own, and 0 is the centre's
abbrev pub added_class : ℕ → Option ℕ
added_class class = if class == 0 then None else Some class

-- the directions that a string gives, or all four if nothing is given
abbrev pub dirs_in : Option Content → Option Dirs
dirs_in None = Some centre_pin.dirs
dirs_in (Some (text letters)) = dirs_of letters
dirs_in (Some (number bytes)) = None
dirs_in (Some (list inner)) = None

-- a cost from 0 to 10^9 thousandths
abbrev pub in_costs : ℤ → Option ℤ
in_costs cost = if int_lt cost (pos 0) || int_lt (pos (10 ^ 9)) cost then None else Some cost

-- the cost of a pin; 0 if none is given
abbrev pub cost_in : Option Content → Option ℤ
cost_in None = Some (pos 0)
cost_in (Some value) = option_and_then in_costs (in_range (milli_of value))

-- a pin of the node has its place in the node's closed box
abbrev pub within_box : Node → Pin → Option Pin
within_box n p = if is_outside n.half_w n.half_h p then None else Some p

-- the pin of the node that a value describes, if it is valid
abbrev pub pin_of : Node → Content → Option Pin
pin_of n value = do
  pairs ← as_list value
  class ← option_and_then class_of (value_at (codes "class") pairs)
  added ← added_class class
  dx ← exact_at (codes "x") pairs
  dy ← exact_at (codes "y") pairs
  dirs ← dirs_in (value_at (codes "dirs") pairs)
  cost ← cost_in (value_at (codes "cost") pairs)
  within_box n (record { class = added; dx = dx; dy = dy; dirs = dirs; cost = cost })
