-- The scene of a diagram: its nodes and edges in the order of the file, each with the first value under each key.
use Rattle.std.specs.Prelude.{◌≡◌, ◌↔◌, ℕ, ◌+◌, ℤ, pos, ◌≤ℤ◌, true, List, [], ◌∷◌, length, codes, find, Option, Some, None, option_and_then, is_some, Ok}
use Rattle.std.specs.List.{AllZip}
use Rattle.std.specs.Ordering.{int_eq}
use Rattle.gml_text.specs.Tree.{Content, Pairs}
use Rattle.plane_geom.specs.declared.point.Point.{Point}
use Rattle.scene_model.specs.declared.edge.Edge.{Edge}
use Rattle.scene_model.specs.declared.node.Node.{Node}
use Rattle.scene_model.specs.declared.pin.Pin.{Pin}
use Rattle.scene_model.specs.declared.settings.Settings.{Settings}
use Rattle.scene_model.specs.Edits.{half}
use Rattle.scene_model.specs.Scene.{Scene, default_settings}
use Rattle.scene_model.specs.Valid.{IsPlain, IsValid}
use Rattle.diagram_read.specs.Checkpoints.{checkpoint_of}
use Rattle.diagram_read.specs.Edges.{weight_in}
use Rattle.diagram_read.specs.Nodes.{is_group_mark, size_in}
use Rattle.diagram_read.specs.Pins.{cost_in, dirs_in}
use Rattle.diagram_read.specs.Scene.{scene_of}
use Rattle.diagram_read.specs.Values.{ListEntry, as_list, class_of, entries_from, exact_at, id_of, list_at, milli_of, number_in, value_at, values_at}

-- the setting has this value, or the default if none is given
abbrev pub IsSetting : Option Content → ℤ → ℤ → Type 0
IsSetting None default setting = setting ≡ default
IsSetting (Some value) default setting = milli_of value ≡ Ok setting

-- the settings are those of the `router` list, if there is one
pub record AreSettingsOf (router : Option Pairs) (t : Settings) : Type 0 where
  pub penalty : IsSetting (option_and_then (value_at (codes "penalty")) router) default_settings.penalty t.penalty
  pub buffer : IsSetting (option_and_then (value_at (codes "buffer")) router) default_settings.buffer t.buffer
  pub nudge : IsSetting (option_and_then (value_at (codes "nudge")) router) default_settings.nudge t.nudge

-- the pin of a value
pub record IsPinOf (value : Content) (p : Pin) : Type 0 where
  pub pairs : Pairs
  pub is_list : as_list value ≡ Some pairs
  pub class : option_and_then class_of (value_at (codes "class") pairs) ≡ Some p.class
  pub dx : exact_at (codes "x") pairs ≡ Some p.dx
  pub dy : exact_at (codes "y") pairs ≡ Some p.dy
  pub dirs : dirs_in (value_at (codes "dirs") pairs) ≡ Some p.dirs
  pub cost : cost_in (value_at (codes "cost") pairs) ≡ Some p.cost

-- half of the size that is given, or of the default
abbrev pub IsHalfOf : Option Content → ℤ → Type 0
IsHalfOf value half_size = (size : ℤ) × (size_in value ≡ Ok size) × (pos 0 ≤ℤ size) × (half_size ≡ half size)

-- the node of a list
pub record IsNodeOf (entry : ListEntry) (n : Node) : Type 0 where
  pub id : option_and_then id_of (value_at (codes "id") entry.1) ≡ Some n.id
  pub graphics : Pairs
  pub is_list : option_and_then as_list (value_at (codes "graphics") entry.1) ≡ Some graphics
  pub x : exact_at (codes "x") graphics ≡ Some n.x
  pub y : exact_at (codes "y") graphics ≡ Some n.y
  pub width : IsHalfOf (value_at (codes "w") graphics) n.half_w
  pub height : IsHalfOf (value_at (codes "h") graphics) n.half_h
  pub group : n.group ≡ is_group_mark (number_in (value_at (codes "isGroup") entry.1))
  pub pins : AllZip IsPinOf (values_at (codes "pin") entry.1) n.pins
  pub origin : n.origin ≡ Some entry.0

-- the value is the id of one of the nodes
pub record IsEnd (nodes : List Node) (value : Option Content) (id : ℤ) : Type 0 where
  pub given : option_and_then id_of value ≡ Some id
  pub known : is_some (find (λ n. int_eq n.id id) nodes) ≡ true

-- the class that is given, or 0
abbrev pub class_at : Option Content → Option ℕ
class_at None = Some 0
class_at (Some value) = class_of value

-- the value is a checkpoint
abbrev pub IsVia : Content → Point → Type 0
IsVia value p = checkpoint_of value ≡ Some p

-- what a connector has besides its ends
pub record IsConnectorOf (pairs : Pairs) (e : Edge) : Type 0 where
  pub from_class : class_at (value_at (codes "sourcePin") pairs) ≡ Some e.from_class
  pub to_class : class_at (value_at (codes "targetPin") pairs) ≡ Some e.to_class
  pub via : AllZip IsVia (values_at (codes "via") pairs) e.via
  pub weight : weight_in (value_at (codes "nudgeWeight") pairs) ≡ Some e.weight

-- the edge of a list, with this number
pub record IsEdgeOf (nodes : List Node) (number : ℕ) (entry : ListEntry) (e : Edge) : Type 0 where
  pub numbered : e.number ≡ number
  pub from : IsEnd nodes (value_at (codes "source") entry.1) e.from
  pub to : IsEnd nodes (value_at (codes "target") entry.1) e.to
  pub loop : e.from ≡ e.to → IsPlain e
  pub connector : (e.from ≡ e.to → ⊥) → IsConnectorOf entry.1 e
  pub origin : e.origin ≡ Some entry.0

-- the edges of the lists, numbered in order from this number
abbrev pub AreEdgesOf : List Node → ℕ → List ListEntry → List Edge → Type 0
AreEdgesOf nodes number [] [] = Unit {0}
AreEdgesOf nodes number (entry ∷ entries) (e ∷ edges) = IsEdgeOf nodes number entry e × AreEdgesOf nodes (number + 1) entries edges
AreEdgesOf nodes number entries edges = ⊥

-- the scene of a tree
pub record IsSceneOf (tree : Pairs) (s : Scene) : Type 0 where
  pub graph : Pairs
  pub is_graph : list_at (codes "graph") tree ≡ Some graph
  pub settings : AreSettingsOf (list_at (codes "router") graph) s.settings
  pub nodes : AllZip IsNodeOf (entries_from 0 (codes "node") graph) s.nodes
  pub edges : AreEdgesOf s.nodes 1 (entries_from 0 (codes "edge") graph) s.edges
  pub next_edge : s.next_edge ≡ length s.edges + 1

-- the law: a tree is read as a scene exactly if that is its scene and is valid; and it has at most one scene
pub record TreesHaveScenes : Type 0 where
  pub read : (tree : Pairs) (s : Scene) → (scene_of tree ≡ Ok s) ↔ (IsSceneOf tree s × IsValid s)
  pub one : (tree : Pairs) (s other : Scene) → IsSceneOf tree s → IsSceneOf tree other → s ≡ other
