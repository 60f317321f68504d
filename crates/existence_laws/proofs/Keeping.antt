-- What is read of a tree is a valid scene.
use Rattle.std.proofs.Common.{◌≡◌, ◌≢◌, ℕ, suc, ◌+◌, ◌<◌, ◌≤◌, ◌^◌, true, false, List, [], ◌∷◌, ◌++◌, length, Option, Some, None, Result, Ok, Err, refl, sym, ap, subst, ◌∙◌, arith, length-append, int_eq, leb-false}
use Rattle.std.specs.Prelude.{ℤ, pos, ◌≤ℤ◌, ◌==◌, ◌||◌, codes, int_lt, is_some, nat_le, option_and_then, option_map, unsigned_abs, All, IfOk, IfSome, IsSomeAnd, IsTrue}
use Rattle.std.proofs.lemmas.Bool.Decides.{nat_tests}
use Rattle.std.proofs.lemmas.Int.{ints}
use Rattle.std.proofs.lemmas.List.Elements.{All-nil, All-push}
use Rattle.fixed_milli.specs.declared.milli.MilliFault.{MilliFault}
use Rattle.fixed_milli.specs.declared.milli.MilliFault.TheVariants as milli
use Rattle.fixed_milli.specs.Whole.{read_whole}
use Rattle.gml_text.specs.Tree.{Content, number, text, list, Pairs}
use Rattle.plane_geom.specs.declared.point.Point.{Point}
use Rattle.scene_model.specs.declared.edge.Edge.{Edge}
use Rattle.scene_model.specs.declared.node.Node.{Node}
use Rattle.scene_model.specs.declared.pin.Pin.{Pin}
use Rattle.scene_model.specs.declared.settings.Setting.{Setting}
use Rattle.scene_model.specs.declared.settings.Setting.TheVariants.{Penalty, Buffer, Nudge}
use Rattle.scene_model.specs.declared.edit.Edit.TheVariants.{Set}
use Rattle.scene_model.specs.Edits.{changed, half, is_off, is_outside, out_of_limits}
use Rattle.scene_model.specs.Scene.{Scene, empty_scene, has_class, node_with, pin_count, via_count}
use Rattle.scene_model.specs.Valid.{IsEdge, IsNode, IsOnField, IsPin, IsValid}
use Rattle.scene_model.proofs.Directions.{tested}
use Rattle.scene_model.proofs.Directions.Tested.{yes, no}
use Rattle.scene_model.proofs.Editing.EdgeEdits as edges
use Rattle.scene_model.proofs.Editing.Entries.{pairs_to}
use Rattle.scene_model.proofs.Editing.NodeEdits.{inside, node_added, within_field}
use Rattle.scene_model.proofs.Editing.Refusals.{none_of, or_none}
use Rattle.scene_model.proofs.Editing.Validity.{keeps_valid}
use Rattle.diagram_read.specs.declared.fault.DiagramFault.TheVariants.{NoGraph, BadId, SameId, NoPlace, BadNumber, BadEnd, OutOfRange, TooMany, BadPin, BadVia, BadWeight}
use Rattle.diagram_read.specs.declared.fault.Part.TheVariants as part
use Rattle.diagram_read.specs.Checkpoints.{checkpoint_of, on_field}
use Rattle.diagram_read.specs.Edges.{class_in, connector_in, edge_in, end_node, loop_at, weight_in, with_edge_in, with_edges_in, with_via}
use Rattle.diagram_read.specs.Faults.{each, need, refuse}
use Rattle.diagram_read.specs.Nodes.{bare_node, boxed, node_in, size_in, with_node_in, with_nodes_in, with_pin}
use Rattle.diagram_read.specs.Pins.{added_class, cost_in, dirs_in, pin_of, within_box}
use Rattle.diagram_read.specs.Scene.{scene_of}
use Rattle.diagram_read.specs.Settings.{with_setting_at, with_setting_read, with_settings_in}
use Rattle.diagram_read.specs.Values.{ListEntry, as_list, class_of, entries_from, exact_at, id_of, in_classes, in_range, is_no_number, list_at, milli_of, value_at, values_at}
use Rattle.diagram_read.proofs.EdgesRead.{IsRoomyEdge, edge_roomy}
use Rattle.diagram_read.proofs.PinsRead.{pin_loadable, some_holds}
use Rattle.diagram_read.proofs.Steps.{bound, chosen, kept, not_refused, ok_holds, there}
use Rattle.scene_model.specs.Loads.{IsLoadablePin}
use Rattle.existence_laws.proofs.Describing.{class_is, end_at, followed, ok_more, told_other}

-- ---- nodes

-- the pin has a class and lies in the box
record IsPlaced (half_w half_h : ℤ) (p : Pin) : Type 0 where
  some_class : 0 < p.class
  low_class : p.class ≤ 65535
  x : unsigned_abs p.dx ≤ unsigned_abs half_w
  y : unsigned_abs p.dy ≤ unsigned_abs half_h

low : (v : ℤ) → int_lt v (pos 0) ≡ false → int_lt (pos 65535) v ≡ false → unsigned_abs v ≤ 65535
low v h k = omega (arith, ints, h, k)

in_class : (v : ℤ) → IfSome (in_classes v) (λ c. c ≤ 65535)
in_class v = elim (tested (int_lt v (pos 0) || int_lt (pos 65535) v)) as (λ _. IfSome (in_classes v) (λ c. c ≤ 65535)) [
  | yes h ↦ rw h tt
  | no h ↦ let within = or_none (int_lt v (pos 0)) (int_lt (pos 65535) v) h in rw h (low v within.0 within.1)
]

low_class : (value : Content) → IfSome (class_of value) (λ c. c ≤ 65535)
low_class (number bytes) = followed _ (read_whole (length bytes) bytes) _ (λ v is. in_class v)
low_class (text bytes) = tt
low_class (list inner) = tt

placed_in : (n : Node) (p : Pin) → 0 < p.class → p.class ≤ 65535 → IfSome (within_box n p) (IsPlaced n.half_w n.half_h)
placed_in n p some few = elim (tested (is_outside n.half_w n.half_h p)) as (λ _. IfSome (within_box n p) (IsPlaced n.half_w n.half_h)) [
  | yes h ↦ rw h tt
  | no h ↦ let i = inside n.half_w n.half_h p h in rw h (record { some_class = some; low_class = few; x = i.0; y = i.1 })
]

pin_placed : (n : Node) (value : Content) → IfSome (pin_of n value) (IsPlaced n.half_w n.half_h)
pin_placed n value =
    followed _ (as_list value) _ (λ pairs a.
    followed _ (option_and_then class_of (value_at (codes "class") pairs)) _ (λ class b.
    followed _ (added_class class) _ (λ added c.
    followed _ (exact_at (codes "x") pairs) _ (λ dx d.
    followed _ (exact_at (codes "y") pairs) _ (λ dy e.
    followed _ (dirs_in (value_at (codes "dirs") pairs)) _ (λ dirs f.
    followed _ (cost_in (value_at (codes "cost") pairs)) _ (λ cost g.
    let t = told_other (class == 0) class added c in
    let few = some_holds (option_and_then class_of (value_at (codes "class") pairs)) class (λ k. k ≤ 65535) b (followed _ (value_at (codes "class") pairs) _ (λ v is. low_class v)) in
    let zero = t.0 in
    let same = t.1 in
    let some : 0 < class = grind (arith, nat_tests, zero) in
    placed_in n (record { class = added; dx = dx; dy = dy; dirs = dirs; cost = cost }) (subst (λ (k : ℕ). 0 < k) same some) (subst (λ (k : ℕ). k ≤ 65535) same few))))))))

pin_fits : (n : Node) (value : Content) (p : Pin) → pin_of n value ≡ Some p → IsPin n.half_w n.half_h p
pin_fits n value p is =
    let l = some_holds (pin_of n value) p IsLoadablePin is (pin_loadable n value) in
    let b = some_holds (pin_of n value) p (IsPlaced n.half_w n.half_h) is (pin_placed n value) in
    record { some_class = b.some_class; low_class = b.low_class; direction = l.direction; x = b.x; y = b.y; cost = l.cost; low_cost = l.low_cost }

-- a node with pins that fit it
record Fitted (bare : Node) (before : ℕ) (n : Node) : Type 0 where
  same : n ≡ record bare { pins = n.pins }
  pins : All (IsPin bare.half_w bare.half_h) n.pins
  few : before + length n.pins ≤ 256

pin_kept : (place before : ℕ) (bare n : Node) (value : Content) → Fitted bare before n → IfOk (with_pin place before n value) (Fitted bare before)
pin_kept place before bare n value has =
    bound _ (refuse (TooMany part.Pin) (nat_le 256 (before + length n.pins))) _ (λ few a.
    bound _ (need (BadPin place) (pin_of n value)) _ (λ pin b.
    let fits = pin_fits n value pin (there (BadPin place) (pin_of n value) pin b) in
    let wide : n.half_w ≡ bare.half_w = ap (λ (m : Node). m.half_w) has.same in
    let high : n.half_h ≡ bare.half_h = ap (λ (m : Node). m.half_h) has.same in
    let room = leb-false 256 (before + length n.pins) (not_refused (TooMany part.Pin) (nat_le 256 (before + length n.pins)) few a) in
    record {
      same = ap (λ (m : Node). record m { pins = n.pins ++ pin ∷ [] }) has.same;
      pins = All-push (IsPin bare.half_w bare.half_h) n.pins pin has.pins (subst (λ (h : ℤ). IsPin bare.half_w h pin) high (subst (λ (w : ℤ). IsPin w n.half_h pin) wide fits));
      few = omega (arith, room, length-append n.pins (pin ∷ []));
    }))

-- a box on the field
record IsBox (id : ℤ) (n : Node) : Type 0 where
  named : n.id ≡ id
  bare : n.pins ≡ []
  half_w : pos 0 ≤ℤ n.half_w
  half_h : pos 0 ≤ℤ n.half_h
  x : unsigned_abs n.x + unsigned_abs n.half_w ≤ 10 ^ 9
  y : unsigned_abs n.y + unsigned_abs n.half_h ≤ 10 ^ 9

is_boxed : (place : ℕ) (id : ℤ) (entry : ListEntry) (x y w h : Result ℤ MilliFault) → IfOk (boxed place id entry x y w h) (IsBox id)
is_boxed place id entry x y w h =
    let far = OutOfRange part.Node place in
    bound _ (refuse (BadNumber part.Node place) (is_no_number x || (is_no_number y || (is_no_number w || is_no_number h)))) _ (λ numbers a.
    bound _ (need far (in_range x)) _ (λ x b.
    bound _ (need far (in_range y)) _ (λ y c.
    bound _ (need far (in_range w)) _ (λ w d.
    bound _ (need far (in_range h)) _ (λ h e.
    bound _ (refuse far (int_lt w (pos 0) || int_lt h (pos 0))) _ (λ sizes f.
    bound _ (refuse far (is_off x (half w) || is_off y (half h))) _ (λ corners g.
    let on = or_none (is_off x (half w)) (is_off y (half h)) (not_refused far (is_off x (half w) || is_off y (half h)) corners g) in
    record { named = refl; bare = refl; half_w = omega (arith, ints); half_h = omega (arith, ints); x = within_field x (half w) on.0; y = within_field y (half h) on.1 })))))))

is_bare : (place : ℕ) (id : ℤ) (entry : ListEntry) → IfOk (bare_node place id entry) (IsBox id)
is_bare place id entry =
    bound _ (need (NoPlace place) (option_and_then as_list (value_at (codes "graphics") entry.1))) _ (λ graphics a.
    bound _ (need (NoPlace place) (value_at (codes "x") graphics)) _ (λ x b.
    bound _ (need (NoPlace place) (value_at (codes "y") graphics)) _ (λ y c.
    is_boxed place id entry (milli_of x) (milli_of y) (size_in (value_at (codes "w") graphics)) (size_in (value_at (codes "h") graphics)))))

-- the node may be added to the scene
record MayJoin (s : Scene) (n : Node) : Type 0 where
  node : IsNode n
  fresh : node_with s n.id ≡ None
  room : length s.nodes < 256
  few : pin_count s + length n.pins ≤ 256

may_join : (s : Scene) (id : ℤ) (n m : Node) → IsBox id n → node_with s id ≡ None → length s.nodes < 256 → Fitted n (pin_count s) m → MayJoin s m
may_join s id n m b fresh room has =
    let few = has.few in
    subst (MayJoin s) (sym has.same) (record {
      node = record { half_w = b.half_w; half_h = b.half_h; x = b.x; y = b.y; pins = has.pins };
      fresh = ap (node_with s) b.named ∙ fresh;
      room = room;
      few = few;
    })

node_joins : (s : Scene) (entry : ListEntry) → pin_count s ≤ 256 → IfOk (node_in s entry) (MayJoin s)
node_joins s entry few =
    let place = suc (length s.nodes) in
    let pins = values_at (codes "pin") entry.1 in
    bound _ (refuse (TooMany part.Node) (nat_le 256 (length s.nodes))) _ (λ nodes a.
    bound _ (need (BadId place) (option_and_then id_of (value_at (codes "id") entry.1))) _ (λ id b.
    bound _ (refuse (SameId place) (is_some (node_with s id))) _ (λ new c.
    bound _ (bare_node place id entry) _ (λ n d.
    let room = leb-false 256 (length s.nodes) (not_refused (TooMany part.Node) (nat_le 256 (length s.nodes)) nodes a) in
    let box = ok_holds (bare_node place id entry) n (IsBox id) d (is_bare place id entry) in
    let none = ap length box.bare in
    let empty : Fitted n (pin_count s) n = record { same = refl; pins = subst (λ (ps : List Pin). All (IsPin n.half_w n.half_h) ps) (sym box.bare) (All-nil (IsPin n.half_w n.half_h)); few = omega (arith, few, none) } in
    ok_more (each (with_pin place (pin_count s)) n pins) (Fitted n (pin_count s)) (MayJoin s)
    (kept (Fitted n (pin_count s)) (with_pin place (pin_count s)) (pin_kept place (pin_count s) n) n pins empty)
    (λ m has. may_join s id n m box (none_of (node_with s id) (not_refused (SameId place) (is_some (node_with s id)) new c)) room has)))))

-- the scene is valid, and its edges have the numbers from 1
record IsSound (s : Scene) : Type 0 where
  valid : IsValid s
  numbered : s.next_edge ≡ suc (length s.edges)

node_kept : (s : Scene) (entry : ListEntry) → IsSound s → IfOk (with_node_in s entry) IsSound
node_kept s entry sound =
    bound _ (node_in s entry) _ (λ n a.
    let j = ok_holds (node_in s entry) n (MayJoin s) a (node_joins s entry sound.valid.few_pins) in
    record { valid = node_added s n sound.valid j.fresh j.node j.room j.few; numbered = sound.numbered })

-- ---- edges

served : (o : Option Node) (n : Node) (c : ℕ) → o ≡ Some n → has_class n c ≡ true → IsSomeAnd o (λ m. IsTrue (has_class m c))
served o n c is has = subst (λ (q : Option Node). IsSomeAnd q (λ m. IsTrue (has_class m c))) (sym is) has

point_on : (p : Point) → IfSome (on_field p) IsOnField
point_on p = elim (tested (is_off p.x (pos 0) || is_off p.y (pos 0))) as (λ _. IfSome (on_field p) IsOnField) [
  | yes h ↦ rw h tt
  | no h ↦ let on = or_none (is_off p.x (pos 0)) (is_off p.y (pos 0)) h in rw h (record { x = edges.within_field p.x on.0; y = edges.within_field p.y on.1 })
]

via_on : (value : Content) → IfSome (checkpoint_of value) IsOnField
via_on value =
    followed _ (as_list value) _ (λ pairs a.
    followed _ (exact_at (codes "x") pairs) _ (λ x b.
    followed _ (exact_at (codes "y") pairs) _ (λ y c. point_on (record { x = x; y = y }))))

record AreOn (points : List Point) : Type 0 where
  few : length points ≤ 4
  each_on : All IsOnField points

via_kept : (place before : ℕ) (points : List Point) (value : Content) → AreOn points → IfOk (with_via place before points value) AreOn
via_kept place before points value on =
    bound _ (refuse (TooMany part.Via) (nat_le 4 (length points) || nat_le 256 (before + length points))) _ (λ room a.
    bound _ (need (BadVia place) (checkpoint_of value)) _ (λ point b.
    let fits = or_none (nat_le 4 (length points)) (nat_le 256 (before + length points)) (not_refused (TooMany part.Via) (nat_le 4 (length points) || nat_le 256 (before + length points)) room a) in
    let below = leb-false 4 (length points) fits.0 in
    record {
      few = omega (arith, below, length-append points (point ∷ []));
      each_on = All-push IsOnField points point on.each_on (some_holds (checkpoint_of value) point IsOnField (there (BadVia place) (checkpoint_of value) point b) (via_on value));
    }))

-- what of an edge is not known else
record HasEnds (s : Scene) (e : Edge) : Type 0 where
  from : IsSomeAnd (node_with s e.from) (λ n. IsTrue (has_class n e.from_class))
  to : IsSomeAnd (node_with s e.to) (λ n. IsTrue (has_class n e.to_class))
  on : AreOn e.via
  room : length s.edges < 512

no_via : AreOn []
no_via = record { few = omega arith; each_on = All-nil IsOnField }

connector_ends : (s : Scene) (place : ℕ) (from to : Node) (entry : ListEntry) → node_with s from.id ≡ Some from → node_with s to.id ≡ Some to → length s.edges < 512 → IfOk (connector_in place (via_count s) from to entry) (HasEnds s)
connector_ends s place from to entry starts ends room =
    let from_value = value_at (codes "sourcePin") entry.1 in
    let to_value = value_at (codes "targetPin") entry.1 in
    let vias = values_at (codes "via") entry.1 in
    bound _ (need (BadEnd place) (class_in from from_value)) _ (λ from_class a.
    bound _ (need (BadEnd place) (class_in to to_value)) _ (λ to_class b.
    bound _ (each (with_via place (via_count s)) [] vias) _ (λ via c.
    bound _ (need (BadWeight place) (weight_in (value_at (codes "nudgeWeight") entry.1))) _ (λ weight d.
    record {
      from = served (node_with s from.id) from from_class starts (class_is from from_value from_class (there (BadEnd place) (class_in from from_value) from_class a)).1;
      to = served (node_with s to.id) to to_class ends (class_is to to_value to_class (there (BadEnd place) (class_in to to_value) to_class b)).1;
      on = ok_holds (each (with_via place (via_count s)) [] vias) via AreOn c (kept AreOn (with_via place (via_count s)) (via_kept place (via_count s)) [] vias no_via);
      room = room;
    }))))

edge_ends : (s : Scene) (entry : ListEntry) → IfOk (edge_in s entry) (HasEnds s)
edge_ends s entry =
    let place = suc (length s.edges) in
    let source = value_at (codes "source") entry.1 in
    let target = value_at (codes "target") entry.1 in
    bound _ (refuse (TooMany part.Edge) (nat_le 512 (length s.edges))) _ (λ few a.
    bound _ (need (BadEnd place) (end_node s source)) _ (λ from b.
    bound _ (need (BadEnd place) (end_node s target)) _ (λ to c.
    let room = leb-false 512 (length s.edges) (not_refused (TooMany part.Edge) (nat_le 512 (length s.edges)) few a) in
    let starts = (end_at s (option_and_then id_of source) from (there (BadEnd place) (end_node s source) from b)).1 in
    let ends = (end_at s (option_and_then id_of target) to (there (BadEnd place) (end_node s target) to c)).1 in
    chosen _ (int_eq from.id to.id) (Ok (loop_at place from.id entry.0)) (connector_in place (via_count s) from to entry)
    (λ same. record { from = served (node_with s from.id) from 0 starts refl; to = served (node_with s from.id) from 0 starts refl; on = no_via; room = room })
    (λ other. connector_ends s place from to entry starts ends room))))

edge_kept : (s : Scene) (entry : ListEntry) → IsSound s → IfOk (with_edge_in s entry) IsSound
edge_kept s entry sound =
    bound _ (edge_in s entry) _ (λ e a.
    let r = ok_holds (edge_in s entry) e (IsRoomyEdge s) a (edge_roomy s entry sound.numbered sound.valid.few_via) in
    let h = ok_holds (edge_in s entry) e (HasEnds s) a (edge_ends s entry) in
    let edge : IsEdge s e = record { from = h.from; to = h.to; loop = r.loadable.loop; some_weight = r.loadable.some_weight; low_weight = r.loadable.low_weight; few_via = h.on.few; via = h.on.each_on } in
    let placed = r.number in
    record {
      valid = edges.edge_added s e sound.valid edge r.loadable.next r.loadable.low h.room r.few;
      numbered = omega (arith, placed, length-append s.edges (e ∷ []));
    })

-- ---- settings

setting_kept : (what : Setting) (s : Scene) (o : Option (Result ℤ MilliFault)) → IsSound s → IfOk (with_setting_read what s o) IsSound
setting_kept what s None sound = sound
setting_kept what s (Some (Err milli.NotNumber)) sound = tt
setting_kept what s (Some (Err milli.OutOfRange)) sound = tt
setting_kept what s (Some (Ok v)) sound =
    chosen _ (out_of_limits what v) (Err (OutOfRange part.Router 0)) (Ok (changed (Set what v) s)) (λ far. tt)
    (λ near. record { valid = keeps_valid (Set what v) s tt sound.valid (rw near refl); numbered = sound.numbered })

settings_kept : (router : Option Pairs) (s : Scene) → IsSound s → IfOk (with_settings_in router s) IsSound
settings_kept None s sound = sound
settings_kept (Some router) s sound =
    bound _ (with_setting_at Penalty (codes "penalty") router s) _ (λ first a.
    bound _ (with_setting_at Buffer (codes "buffer") router first) _ (λ second b.
    let one = ok_holds (with_setting_at Penalty (codes "penalty") router s) first IsSound a (setting_kept Penalty s (option_map milli_of (value_at (codes "penalty") router)) sound) in
    let two = ok_holds (with_setting_at Buffer (codes "buffer") router first) second IsSound b (setting_kept Buffer first (option_map milli_of (value_at (codes "buffer") router)) one) in
    setting_kept Nudge second (option_map milli_of (value_at (codes "nudge") router)) two))

-- ---- the scene

empty_sound : IsSound empty_scene
empty_sound = record {
  valid = record {
    ids_differ = pairs_to (λ m n. m.id ≢ n.id) [] tt;
    nodes = All-nil IsNode;
    few_nodes = omega arith;
    few_pins = omega arith;
    numbers_rise = pairs_to (λ d e. d.number < e.number) [] tt;
    below_next = All-nil (λ (e : Edge). e.number < 1);
    edges = All-nil (IsEdge empty_scene);
    few_edges = omega arith;
    few_via = omega arith;
    settings = record { penalty = omega (arith, ints); low_penalty = omega (arith, ints); buffer = omega (arith, ints); low_buffer = omega (arith, ints); nudge = omega (arith, ints); low_nudge = omega (arith, ints) };
    next = omega arith;
  };
  numbered = refl;
}

pub scene_valid : (tree : Pairs) → IfOk (scene_of tree) IsValid
scene_valid tree =
    bound _ (need NoGraph (list_at (codes "graph") tree)) _ (λ graph a.
    let router = list_at (codes "router") graph in
    let nodes = entries_from 0 (codes "node") graph in
    let lists = entries_from 0 (codes "edge") graph in
    bound _ (with_settings_in router empty_scene) _ (λ set b.
    bound _ (with_nodes_in set nodes) _ (λ noded c.
    let first = ok_holds (with_settings_in router empty_scene) set IsSound b (settings_kept router empty_scene empty_sound) in
    let second = ok_holds (with_nodes_in set nodes) noded IsSound c (kept IsSound with_node_in node_kept set nodes first) in
    ok_more (with_edges_in noded lists) IsSound IsValid (kept IsSound with_edge_in edge_kept noded lists second) (λ s sound. sound.valid))))
