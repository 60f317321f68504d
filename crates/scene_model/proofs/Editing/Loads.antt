-- What is loaded keeps a scene valid.
use Rattle.std.proofs.Common.{◌≡◌, ℕ, ◌+◌, ◌^◌, ◌≤◌, false, None, List, [], ◌∷◌, length, arith, ltb-false, leb-false}
use Rattle.std.specs.Prelude.{ℤ, pos, ◌≤ℤ◌, int_lt, nat_lt, ◌==◌}
use Rattle.std.specs.List.{AllByRecursion as Each}
use Rattle.std.proofs.lemmas.Bool.{eqb-false}
use Rattle.std.proofs.lemmas.Int.{ints}
use Rattle.std.proofs.lemmas.List.Elements.{All-from_recursion, recursion_from_All}
use Rattle.plane_geom.specs.declared.point.Point.{Point}
use Rattle.scene_model.specs.declared.node.Node.{Node}
use Rattle.scene_model.specs.declared.edge.Edge.{Edge}
use Rattle.scene_model.specs.declared.pin.Pin.{Pin}
use Rattle.scene_model.specs.Scene.{Scene, node_with, pin_count, via_count}
use Rattle.scene_model.specs.Valid.{IsValid, IsPin, IsOnField}
use Rattle.scene_model.specs.Loads.{is_no_half, pin_refusals, node_refusals, node_refusal, via_refusals, edge_refusals, edge_refusal, IsLoadablePin, IsLoadableNode, IsLoadableEdge, with_node, with_edge, LoadsKeepValid}
use Rattle.scene_model.proofs.Editing.Refusals.{AreNone, all_none, when_none, none_of, known_node, or_none}
use Rattle.scene_model.proofs.Editing.NodeEdits.{node_added, within_field, inside}
use Rattle.scene_model.proofs.Editing.EdgeEdits as edges

-- pins that are not refused are pins of the box, and not too many
record ArePins (half_w half_h : ℤ) (count : ℕ) (ps : List Pin) : Type 0 where
  each : Each (IsPin half_w half_h) ps
  few : count + length ps ≤ 256

are_pins : (half_w half_h : ℤ) (count place : ℕ) (ps : List Pin) → count ≤ 256 → Each IsLoadablePin ps → AreNone (pin_refusals half_w half_h count place ps) → ArePins half_w half_h count ps
are_pins half_w half_h count place [] few l r = record { each = tt; few = omega (arith, few) }
are_pins half_w half_h count place (p ∷ ps) few l r =
    let c = or_none (p.class == 0) (nat_lt 65535 p.class) (when_none _ _ r.0) in
    let some_class = eqb-false p.class 0 c.0 in
    let room = leb-false 256 count (when_none _ _ r.1.0) in
    let i = inside half_w half_h p (when_none _ _ r.1.1.0) in
    let rest = are_pins half_w half_h (count + 1) (place + 1) ps (omega (arith, room)) l.1 r.1.1.1 in
    let more = rest.few in
    record {
      each = (
        record {
          some_class = omega (arith, some_class);
          low_class = ltb-false 65535 p.class c.1;
          direction = l.0.direction;
          x = i.0;
          y = i.1;
          cost = l.0.cost;
          low_cost = l.0.low_cost;
        },
        rest.each,
      );
      few = omega (arith, more);
    }

half_size : (half : ℤ) → is_no_half half ≡ false → pos 0 ≤ℤ half
half_size half h = let c = or_none (int_lt half (pos 0)) (int_lt (pos (10 ^ 9)) half) h in let low = c.0 in omega (arith, ints, low)

load_node : (n : Node) (s : Scene) → IsLoadableNode n → IsValid s → node_refusal n s ≡ None → IsValid (with_node n s)
load_node n s l v free =
    let r = all_none (node_refusals n s) free in
    let pins = are_pins n.half_w n.half_h (pin_count s) 1 n.pins v.few_pins (recursion_from_All IsLoadablePin n.pins l) r.1.1.1.1.1.1 in
    node_added s n v (none_of (node_with s n.id) (when_none _ _ r.0))
    (record {
      half_w = half_size n.half_w (when_none _ _ r.1.1.0);
      half_h = half_size n.half_h (when_none _ _ r.1.1.1.0);
      x = within_field n.x n.half_w (when_none _ _ r.1.1.1.1.0);
      y = within_field n.y n.half_h (when_none _ _ r.1.1.1.1.1.0);
      pins = All-from_recursion (IsPin n.half_w n.half_h) n.pins pins.each;
    })
    (leb-false 256 (length s.nodes) (when_none _ _ r.1.0))
    pins.few

-- checkpoints that are not refused lie on the field, and are not too many
record AreVia (own count : ℕ) (ps : List Point) : Type 0 where
  each : Each IsOnField ps
  own_few : own + length ps ≤ 4
  few : count + length ps ≤ 256

are_via : (own count : ℕ) (ps : List Point) → own ≤ 4 → count ≤ 256 → AreNone (via_refusals own count ps) → AreVia own count ps
are_via own count [] own_few few r = record { each = tt; own_few = omega (arith, own_few); few = omega (arith, few) }
are_via own count (p ∷ ps) own_few few r =
    let own_room = leb-false 4 own (when_none _ _ r.0) in
    let room = leb-false 256 count (when_none _ _ r.1.0) in
    let rest = are_via (own + 1) (count + 1) ps (omega (arith, own_room)) (omega (arith, room)) r.1.1.1.1 in
    let own_more = rest.own_few in
    let more = rest.few in
    record {
      each = (record { x = edges.within_field p.x (when_none _ _ r.1.1.0); y = edges.within_field p.y (when_none _ _ r.1.1.1.0) }, rest.each);
      own_few = omega (arith, own_more);
      few = omega (arith, more);
    }

load_edge : (e : Edge) (s : Scene) → IsLoadableEdge s e → IsValid s → edge_refusal e s ≡ None → IsValid (with_edge e s)
load_edge e s l v free =
    let r = all_none (edge_refusals e s) free in
    let source = known_node s e.from r.0 in
    let target = known_node s e.to r.1.0 in
    let via = are_via 0 (via_count s) e.via (omega arith) v.few_via r.1.1.1.1.1 in
    edges.edge_added s e v
    (record {
      from = edges.serves_class s e.from e.from_class source.0 source.1 r.1.1.0;
      to = edges.serves_class s e.to e.to_class target.0 target.1 r.1.1.1.0;
      loop = l.loop;
      some_weight = l.some_weight;
      low_weight = l.low_weight;
      few_via = (let few = via.own_few in omega (arith, few));
      via = All-from_recursion IsOnField e.via via.each;
    })
    l.next l.low
    (leb-false 512 (length s.edges) (when_none _ _ r.1.1.1.1.0))
    via.few

pub loads_keep_valid : LoadsKeepValid
loads_keep_valid = record { nodes = load_node; edges = load_edge }
