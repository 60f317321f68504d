-- The validity of a scene.
use Rattle.std.specs.Prelude.{◌≡◌, ◌≢◌, ◌+◌, ◌<◌, ◌≤◌, ◌^◌, ◌||◌, ℤ, pos, ◌≤ℤ◌, unsigned_abs, [], length, IsTrue, All, AllPairs, IsSomeAnd}
use Rattle.plane_geom.specs.declared.point.Point.{Point}
use Rattle.scene_model.specs.declared.node.Node.{Node}
use Rattle.scene_model.specs.declared.edge.Edge.{Edge}
use Rattle.scene_model.specs.declared.pin.Pin.{Pin}
use Rattle.scene_model.specs.declared.pin.Dirs.{Dirs}
use Rattle.scene_model.specs.declared.settings.Settings.{Settings}
use Rattle.scene_model.specs.Scene.{Scene, node_with, has_class, pin_count, via_count}

-- the place lies on the field, in which boxes and checkpoints have to be
pub record IsOnField (p : Point) : Type 0 where
  pub x : unsigned_abs p.x ≤ 10 ^ 9
  pub y : unsigned_abs p.y ≤ 10 ^ 9

-- some direction is set
abbrev pub HasDirection : Dirs → Type 0
HasDirection d = IsTrue (d.east || d.south || d.west || d.north)

-- the pin has a class and a direction, lies in the closed box with these half sizes, and its cost is within the limit
pub record IsPin (half_w half_h : ℤ) (p : Pin) : Type 0 where
  pub some_class : 0 < p.class
  pub low_class : p.class ≤ 65535
  pub direction : HasDirection p.dirs
  pub x : unsigned_abs p.dx ≤ unsigned_abs half_w
  pub y : unsigned_abs p.dy ≤ unsigned_abs half_h
  pub cost : pos 0 ≤ℤ p.cost
  pub low_cost : p.cost ≤ℤ pos (10 ^ 9)

-- the box lies on the field, and each pin in the box
pub record IsNode (n : Node) : Type 0 where
  pub half_w : pos 0 ≤ℤ n.half_w
  pub half_h : pos 0 ≤ℤ n.half_h
  pub x : unsigned_abs n.x + unsigned_abs n.half_w ≤ 10 ^ 9
  pub y : unsigned_abs n.y + unsigned_abs n.half_h ≤ 10 ^ 9
  pub pins : All (IsPin n.half_w n.half_h) n.pins

-- the pin lies on the node's box, and its cost is within the limit
pub record IsPlaced (n : Node) (p : Pin) : Type 0 where
  pub x : unsigned_abs p.dx ≤ unsigned_abs n.half_w
  pub y : unsigned_abs p.dy ≤ unsigned_abs n.half_h
  pub cost : unsigned_abs p.cost ≤ 10 ^ 9

-- a loop has no data except its ends
pub record IsPlain (e : Edge) : Type 0 where
  pub from_class : e.from_class ≡ 0
  pub to_class : e.to_class ≡ 0
  pub via : e.via ≡ []
  pub weight : e.weight ≡ 1

-- the edge has its ends and their classes in the scene, and its checkpoints lie on the field
pub record IsEdge (s : Scene) (e : Edge) : Type 0 where
  pub from : IsSomeAnd (node_with s e.from) (λ n. IsTrue (has_class n e.from_class))
  pub to : IsSomeAnd (node_with s e.to) (λ n. IsTrue (has_class n e.to_class))
  pub loop : e.from ≡ e.to → IsPlain e
  pub some_weight : 0 < e.weight
  pub low_weight : e.weight ≤ 4
  pub few_via : length e.via ≤ 4
  pub via : All IsOnField e.via

-- the settings are within their limits
pub record AreSettings (t : Settings) : Type 0 where
  pub penalty : pos 1 ≤ℤ t.penalty
  pub low_penalty : t.penalty ≤ℤ pos (10 ^ 9)
  pub buffer : pos 1 ≤ℤ t.buffer
  pub low_buffer : t.buffer ≤ℤ pos (10 ^ 6)
  pub nudge : pos 0 ≤ℤ t.nudge
  pub low_nudge : t.nudge ≤ℤ pos (10 ^ 6)

-- the scene is one that calls accept and keep valid
pub record IsValid (s : Scene) : Type 0 where
  pub ids_differ : AllPairs (λ m n. m.id ≢ n.id) s.nodes
  pub nodes : All IsNode s.nodes
  pub few_nodes : length s.nodes ≤ 256
  pub few_pins : pin_count s ≤ 256
  pub numbers_rise : AllPairs (λ d e. d.number < e.number) s.edges
  pub below_next : All (λ e. e.number < s.next_edge) s.edges
  pub edges : All (IsEdge s) s.edges
  pub few_edges : length s.edges ≤ 512
  pub few_via : via_count s ≤ 256
  pub settings : AreSettings s.settings
  pub next : s.next_edge < 2 ^ 32
