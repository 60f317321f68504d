-- The edits: the refusals of each, in order, and the scene after it.
use Rattle.std.specs.Prelude.{◌≡◌, ℕ, suc, ◌+◌, ◌-◌, ◌*◌, ◌/◌, ◌^◌, ◌==◌, ◌&&◌, ◌||◌, ℤ, pos, unsigned_abs, Bool, true, false, not, nat_le, nat_lt, int_lt, List, [], ◌∷◌, ◌++◌, length, map, filter, find, position, insert, remove, Option, None, Some, option_map, option_and_then, is_some, is_none, slice_get, Result, Ok, Err, if◌then◌else◌}
use Rattle.std.specs.Ordering.{int_eq}
use Rattle.std.specs.List.{list_any}
use Rattle.scene_model.specs.declared.node.Node.{Node}
use Rattle.scene_model.specs.declared.edge.Edge.{Edge}
use Rattle.scene_model.specs.declared.pin.Dirs.{Dirs}
use Rattle.scene_model.specs.declared.pin.Pin.{Pin}
use Rattle.scene_model.specs.declared.settings.Settings.{Settings}
use Rattle.scene_model.specs.declared.settings.Setting.{Setting}
use Rattle.scene_model.specs.declared.settings.Setting.TheVariants.{Penalty, Buffer, Nudge}
use Rattle.scene_model.specs.declared.fault.SceneFault.{SceneFault}
use Rattle.scene_model.specs.declared.fault.SceneFault.TheVariants.{UnknownNode, UnknownEdge, NodeExists, NodeInUse, SameNode, OutOfRange, PinOutside, UnknownPinClass, NoSuchPlace, TooMany, PinInUse, Memory}
use Rattle.scene_model.specs.declared.edit.Edit.{Edit}
use Rattle.scene_model.specs.declared.edit.Edit.TheVariants.{AddNode, MoveNode, SizeNode, DropNode, AddPin, DropPin, AddEdge, CutEdge, SetClasses, AddVia, DropVia, Set}
use Rattle.scene_model.specs.Scene.{Scene, node_with, edge_with, is_loop, has_class, pin_count, via_count}
use Rattle.scene_model.specs.Valid.{HasDirection}

-- the refusal if the test holds
abbrev pub when : Bool → SceneFault → Option SceneFault
when true fault = Some fault
when false fault = None

-- the first refusal of a table
abbrev pub first_some : List (Option SceneFault) → Option SceneFault
first_some [] = None
first_some (Some fault ∷ rs) = Some fault
first_some (None ∷ rs) = first_some rs

-- no node has the id, no edge the number
abbrev pub unknown_node : Scene → ℤ → Option SceneFault
unknown_node s id = when (is_none (node_with s id)) (UnknownNode id)

abbrev pub unknown_edge : Scene → ℕ → Option SceneFault
unknown_edge s number = when (is_none (edge_with s number)) (UnknownEdge number)

-- the refusal that `says` gives for the node, or the edge, if it exists
abbrev pub at_node : Scene → ℤ → (Node → Option SceneFault) → Option SceneFault
at_node s id says = option_and_then says (node_with s id)

abbrev pub at_edge : Scene → ℕ → (Edge → Option SceneFault) → Option SceneFault
at_edge s number says = option_and_then says (edge_with s number)

-- the node has no pin of the class
abbrev pub unknown_class : Scene → ℤ → ℕ → Option SceneFault
unknown_class s id class = at_node s id (λ n. when (not (has_class n class)) (UnknownPinClass class))

-- half a size, rounded up
abbrev pub half : ℤ → ℤ
half size = pos ((unsigned_abs size + 1) / 2)

-- no box has this width or height
abbrev pub is_no_size : ℤ → Bool
is_no_size size = int_lt size (pos 0) || int_lt (pos (2 * 10 ^ 9)) size

-- a box with the half size, centred at the coordinate, reaches beyond the field
abbrev pub is_off : ℤ → ℤ → Bool
is_off coordinate half = nat_lt (10 ^ 9) (unsigned_abs coordinate + unsigned_abs half)

-- the pin is outside a box with these half sizes
abbrev pub is_outside : ℤ → ℤ → Pin → Bool
is_outside half_w half_h p = nat_lt (unsigned_abs half_w) (unsigned_abs p.dx) || nat_lt (unsigned_abs half_h) (unsigned_abs p.dy)

-- the edge ends at the node
abbrev pub touches : ℤ → Edge → Bool
touches id e = int_eq e.from id || int_eq e.to id

-- the edge uses the class at the node
abbrev pub uses : ℤ → ℕ → Edge → Bool
uses id class e = (int_eq e.from id && e.from_class == class) || (int_eq e.to id && e.to_class == class)

-- an edge uses the class of this pin, and no other pin of the node has it
abbrev pub in_use : Scene → Node → ℕ → Pin → Option SceneFault
in_use s n place p =
    if list_any (λ other. other.class == p.class) (remove n.pins (place - 1)) then None
    else option_map (λ e. PinInUse e.number) (find (uses n.id p.class) s.edges)

-- the place, counted from 1, is not that of one of `count` entries
abbrev pub is_no_place : ℕ → ℕ → Bool
is_no_place count place = place == 0 || nat_lt count place

-- the setting may not have this value
abbrev pub out_of_limits : Setting → ℤ → Bool
out_of_limits Penalty v = int_lt v (pos 1) || int_lt (pos (10 ^ 9)) v
out_of_limits Buffer v = int_lt v (pos 1) || int_lt (pos (10 ^ 6)) v
out_of_limits Nudge v = int_lt v (pos 0) || int_lt (pos (10 ^ 6)) v

-- a pin, a node and an edge as edits add them
abbrev pub new_pin : ℕ → ℤ → ℤ → Dirs → Pin
new_pin class dx dy dirs = record { class = class; dx = dx; dy = dy; dirs = dirs; cost = pos 0 }

abbrev pub new_node : ℤ → ℤ → ℤ → ℤ → ℤ → Node
new_node id x y half_w half_h = record { id = id; x = x; y = y; half_w = half_w; half_h = half_h; group = false; pins = []; origin = None }

abbrev pub new_edge : ℕ → ℤ → ℤ → ℕ → ℕ → Edge
new_edge number from to from_class to_class =
    record { number = number; from = from; to = to; from_class = from_class; to_class = to_class; via = []; origin = None; weight = 1 }

-- the refusals of an edit, in order
abbrev pub refusals : Edit → Scene → List (Option SceneFault)
refusals (AddNode id x y w h) s =
    when (is_some (node_with s id)) (NodeExists id)
    ∷ when (nat_le 256 (length s.nodes)) (TooMany 256)
    ∷ when (is_no_size w) (OutOfRange 5)
    ∷ when (is_no_size h) (OutOfRange 6)
    ∷ when (is_off x (half w)) (OutOfRange 3)
    ∷ when (is_off y (half h)) (OutOfRange 4) ∷ []
refusals (MoveNode id x y) s =
    unknown_node s id
    ∷ at_node s id (λ n. when (is_off x n.half_w) (OutOfRange 3))
    ∷ at_node s id (λ n. when (is_off y n.half_h) (OutOfRange 4)) ∷ []
refusals (SizeNode id w h) s =
    unknown_node s id
    ∷ when (is_no_size w) (OutOfRange 3)
    ∷ at_node s id (λ n. when (is_off n.x (half w)) (OutOfRange 3))
    ∷ when (is_no_size h) (OutOfRange 4)
    ∷ at_node s id (λ n. when (is_off n.y (half h)) (OutOfRange 4))
    ∷ at_node s id (λ n. option_map (λ k. PinOutside (suc k)) (position (is_outside (half w) (half h)) n.pins)) ∷ []
refusals (DropNode id) s =
    unknown_node s id
    ∷ option_map (λ e. NodeInUse e.number) (find (touches id) s.edges) ∷ []
refusals (AddPin id class dx dy dirs) s =
    unknown_node s id
    ∷ when (class == 0 || nat_lt 65535 class) (OutOfRange 3)
    ∷ when (nat_le 256 (pin_count s)) (TooMany 256)
    ∷ at_node s id (λ n. when (is_outside n.half_w n.half_h (new_pin class dx dy dirs)) (PinOutside (suc (length n.pins)))) ∷ []
refusals (DropPin id place) s =
    unknown_node s id
    ∷ at_node s id (λ n. when (is_no_place (length n.pins) place) (NoSuchPlace place))
    ∷ at_node s id (λ n. option_and_then (in_use s n place) (slice_get n.pins (place - 1))) ∷ []
refusals (AddEdge from to from_class to_class) s =
    unknown_node s from
    ∷ unknown_node s to
    ∷ when (int_eq from to) (SameNode from)
    ∷ unknown_class s from from_class
    ∷ unknown_class s to to_class
    ∷ when (nat_le 512 (length s.edges)) (TooMany 512)
    ∷ when (s.next_edge == 4294967295) (TooMany 4294967295) ∷ []
refusals (CutEdge number) s = unknown_edge s number ∷ []
refusals (SetClasses number from_class to_class) s =
    unknown_edge s number
    ∷ at_edge s number (λ e. when (is_loop e) (SameNode e.from))
    ∷ at_edge s number (λ e. unknown_class s e.from from_class)
    ∷ at_edge s number (λ e. unknown_class s e.to to_class) ∷ []
refusals (AddVia number place x y) s =
    unknown_edge s number
    ∷ at_edge s number (λ e. when (is_loop e) (SameNode e.from))
    ∷ at_edge s number (λ e. when (is_no_place (suc (length e.via)) place) (NoSuchPlace place))
    ∷ when (is_off x (pos 0)) (OutOfRange 4)
    ∷ when (is_off y (pos 0)) (OutOfRange 5)
    ∷ at_edge s number (λ e. when (nat_le 4 (length e.via)) (TooMany 4))
    ∷ when (nat_le 256 (via_count s)) (TooMany 256) ∷ []
refusals (DropVia number place) s =
    unknown_edge s number
    ∷ at_edge s number (λ e. when (is_no_place (length e.via) place) (NoSuchPlace place)) ∷ []
refusals (Set what value) s = when (out_of_limits what value) (OutOfRange 3) ∷ []

-- why an edit is refused, or none: the first refusal that applies
abbrev pub refusal : Edit → Scene → Option SceneFault
refusal e s = first_some (refusals e s)

-- a pin that is added has a direction; no refusal checks this
abbrev pub IsDirected : Edit → Type 0
IsDirected (AddPin id class dx dy dirs) = HasDirection dirs
IsDirected e = Unit {0}

-- the scene with the node of this id changed, and with the edge of this number changed
abbrev pub change_node : Scene → ℤ → (Node → Node) → Scene
change_node s id change = record s { nodes = map (λ n. if int_eq n.id id then change n else n) s.nodes }

abbrev pub change_edge : Scene → ℕ → (Edge → Edge) → Scene
change_edge s number change = record s { edges = map (λ e. if e.number == number then change e else e) s.edges }

-- the settings with this one changed
abbrev pub with_setting : Setting → ℤ → Settings → Settings
with_setting Penalty v t = record t { penalty = v }
with_setting Buffer v t = record t { buffer = v }
with_setting Nudge v t = record t { nudge = v }

-- the scene after an edit that is not refused
abbrev pub changed : Edit → Scene → Scene
changed (AddNode id x y w h) s = record s { nodes = s.nodes ++ new_node id x y (half w) (half h) ∷ [] }
changed (MoveNode id x y) s = change_node s id (λ n. record n { x = x; y = y })
changed (SizeNode id w h) s = change_node s id (λ n. record n { half_w = half w; half_h = half h })
changed (DropNode id) s = record s { nodes = filter (λ n. not (int_eq n.id id)) s.nodes }
changed (AddPin id class dx dy dirs) s = change_node s id (λ n. record n { pins = n.pins ++ new_pin class dx dy dirs ∷ [] })
changed (DropPin id place) s = change_node s id (λ n. record n { pins = remove n.pins (place - 1) })
changed (AddEdge from to from_class to_class) s =
    record s { edges = s.edges ++ new_edge s.next_edge from to from_class to_class ∷ []; next_edge = suc s.next_edge }
changed (CutEdge number) s = record s { edges = filter (λ e. not (e.number == number)) s.edges }
changed (SetClasses number from_class to_class) s = change_edge s number (λ e. record e { from_class = from_class; to_class = to_class })
changed (AddVia number place x y) s = change_edge s number (λ e. record e { via = insert e.via (place - 1) (record { x = x; y = y }) })
changed (DropVia number place) s = change_edge s number (λ e. record e { via = remove e.via (place - 1) })
changed (Set what value) s = record s { settings = with_setting what value s.settings }

-- the result of a call with this refusal, or else with the scene after it
abbrev pub edited_by : Option SceneFault → Scene → Result Scene SceneFault
edited_by (Some fault) after = Err fault
edited_by None after = Ok after

-- the result of an edit
abbrev pub edited : Edit → Scene → Result Scene SceneFault
edited e s = edited_by (refusal e s) (changed e s)

-- the result and the effect of a call: the refusal and no change, or else the scene `after`; out of memory, with no change, only where it is not refused
abbrev pub IsDone : Option SceneFault → Scene → Scene → Scene → Result Unit SceneFault → Type 0
IsDone refusal after old new (Ok done) = (refusal ≡ None) × (new ≡ after)
IsDone refusal after old new (Err Memory) = (refusal ≡ None) × (new ≡ old)
IsDone refusal after old new (Err fault) = (refusal ≡ Some fault) × (new ≡ old)

-- the same for an edit
abbrev pub IsEdited : Edit → Scene → Scene → Result Unit SceneFault → Type 0
IsEdited e old new answer = IsDone (refusal e old) (changed e old) old new answer
