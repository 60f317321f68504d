-- The nodes and edges of a diagram, loaded into a scene one by one: the refusals of each, in order, and the scene after it.
use Rattle.std.specs.Prelude.{◌≡◌, ℕ, suc, ◌+◌, ◌^◌, ◌<◌, ◌≤◌, ◌==◌, ◌||◌, ℤ, pos, ◌≤ℤ◌, Bool, nat_le, nat_lt, int_lt, List, [], ◌∷◌, ◌++◌, length, All, Option, None, is_some, Result}
use Rattle.plane_geom.specs.declared.point.Point.{Point}
use Rattle.scene_model.specs.declared.node.Node.{Node}
use Rattle.scene_model.specs.declared.edge.Edge.{Edge}
use Rattle.scene_model.specs.declared.pin.Pin.{Pin}
use Rattle.scene_model.specs.declared.fault.SceneFault.{SceneFault}
use Rattle.scene_model.specs.declared.fault.SceneFault.TheVariants.{NodeExists, OutOfRange, PinOutside, TooMany}
use Rattle.scene_model.specs.Scene.{Scene, node_with, pin_count, via_count}
use Rattle.scene_model.specs.Valid.{HasDirection, IsPlain, IsValid}
use Rattle.scene_model.specs.Edits.{when, first_some, unknown_node, unknown_class, is_off, is_outside, IsDone}

-- no box has this half size
abbrev pub is_no_half : ℤ → Bool
is_no_half half = int_lt half (pos 0) || int_lt (pos (10 ^ 9)) half

-- the refusals of the pins from this place on, for a box with these half sizes, where the scene has `count` pins before them
abbrev pub pin_refusals : ℤ → ℤ → ℕ → ℕ → List Pin → List (Option SceneFault)
pin_refusals half_w half_h count place [] = []
pin_refusals half_w half_h count place (p ∷ ps) =
    when (p.class == 0 || nat_lt 65535 p.class) (OutOfRange 3)
    ∷ when (nat_le 256 count) (TooMany 256)
    ∷ when (is_outside half_w half_h p) (PinOutside place)
    ∷ pin_refusals half_w half_h (count + 1) (place + 1) ps

abbrev pub node_refusals : Node → Scene → List (Option SceneFault)
node_refusals n s =
    when (is_some (node_with s n.id)) (NodeExists n.id)
    ∷ when (nat_le 256 (length s.nodes)) (TooMany 256)
    ∷ when (is_no_half n.half_w) (OutOfRange 5)
    ∷ when (is_no_half n.half_h) (OutOfRange 6)
    ∷ when (is_off n.x n.half_w) (OutOfRange 3)
    ∷ when (is_off n.y n.half_h) (OutOfRange 4)
    ∷ pin_refusals n.half_w n.half_h (pin_count s) 1 n.pins

-- the refusals of the checkpoints, where the edge has `own` checkpoints and the scene `count` before them
abbrev pub via_refusals : ℕ → ℕ → List Point → List (Option SceneFault)
via_refusals own count [] = []
via_refusals own count (p ∷ ps) =
    when (nat_le 4 own) (TooMany 4)
    ∷ when (nat_le 256 count) (TooMany 256)
    ∷ when (is_off p.x (pos 0)) (OutOfRange 4)
    ∷ when (is_off p.y (pos 0)) (OutOfRange 5)
    ∷ via_refusals (own + 1) (count + 1) ps

abbrev pub edge_refusals : Edge → Scene → List (Option SceneFault)
edge_refusals e s =
    unknown_node s e.from
    ∷ unknown_node s e.to
    ∷ unknown_class s e.from e.from_class
    ∷ unknown_class s e.to e.to_class
    ∷ when (nat_le 512 (length s.edges)) (TooMany 512)
    ∷ via_refusals 0 (via_count s) e.via

-- why a node, or an edge, is refused, or none: the first refusal that applies
abbrev pub node_refusal : Node → Scene → Option SceneFault
node_refusal n s = first_some (node_refusals n s)

abbrev pub edge_refusal : Edge → Scene → Option SceneFault
edge_refusal e s = first_some (edge_refusals e s)

-- the pin has a direction and a cost within the limit; no refusal checks this
pub record IsLoadablePin (p : Pin) : Type 0 where
  pub direction : HasDirection p.dirs
  pub cost : pos 0 ≤ℤ p.cost
  pub low_cost : p.cost ≤ℤ pos (10 ^ 9)

abbrev pub IsLoadableNode : Node → Type 0
IsLoadableNode n = All IsLoadablePin n.pins

-- the number is the next one or a later one, and a loop has no data except its ends; no refusal checks this
pub record IsLoadableEdge (s : Scene) (e : Edge) : Type 0 where
  pub next : s.next_edge ≤ e.number
  pub low : e.number < 4294967295
  pub loop : e.from ≡ e.to → IsPlain e
  pub some_weight : 0 < e.weight
  pub low_weight : e.weight ≤ 4

-- the scene with the node, or the edge, appended
abbrev pub with_node : Node → Scene → Scene
with_node n s = record s { nodes = s.nodes ++ n ∷ [] }

abbrev pub with_edge : Edge → Scene → Scene
with_edge e s = record s { edges = s.edges ++ e ∷ []; next_edge = suc e.number }

-- the result of a call that loads a node, or an edge
abbrev pub IsNodeLoaded : Node → Scene → Scene → Result Unit SceneFault → Type 0
IsNodeLoaded n old new answer = IsDone (node_refusal n old) (with_node n old) old new answer

abbrev pub IsEdgeLoaded : Edge → Scene → Scene → Result Unit SceneFault → Type 0
IsEdgeLoaded e old new answer = IsDone (edge_refusal e old) (with_edge e old) old new answer

-- the law: loading keeps a scene valid
pub record LoadsKeepValid : Type 0 where
  pub nodes : (n : Node) (s : Scene) → IsLoadableNode n → IsValid s → node_refusal n s ≡ None → IsValid (with_node n s)
  pub edges : (e : Edge) (s : Scene) → IsLoadableEdge s e → IsValid s → edge_refusal e s ≡ None → IsValid (with_edge e s)
