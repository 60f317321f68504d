-- The scene of a tree is valid.
use Rattle.std.proofs.Common.{◌≡◌, ◌≢◌, ℕ, suc, ◌+◌, ◌≤◌, ◌<◌, true, false, List, [], ◌∷◌, length, Option, Some, None, Result, Ok, Err, All, refl, sym, ap, subst, ◌∙◌, arith, length-append, leb-false}
use Rattle.std.specs.Prelude.{ℤ, pos, ◌||◌, ◌==◌, int_lt, nat_le, unsigned_abs, codes, option_and_then, option_map, is_some, IfOk, IsTrue, IsSomeAnd}
use Rattle.std.proofs.lemmas.Bool.{eqb-false}
use Rattle.std.proofs.lemmas.Bool.Decides.{Decides-int_eq}
use Rattle.std.proofs.lemmas.Int.{ints}
use Rattle.std.proofs.lemmas.List.Elements.{All-nil, All-push}
use Rattle.std.proofs.lemmas.Option.{none-some, same_Some}
use Rattle.std.specs.Ordering.{int_eq}
use Rattle.fixed_milli.specs.declared.milli.MilliFault.{MilliFault}
use Rattle.fixed_milli.specs.declared.milli.MilliFault.TheVariants as milli
use Rattle.fixed_milli.specs.Whole.{read_whole}
use Rattle.plane_geom.specs.declared.point.Point.{Point}
use Rattle.gml_text.specs.Tree.{Content, number, text, list, Pairs}
use Rattle.scene_model.specs.declared.node.Node.{Node}
use Rattle.scene_model.specs.declared.edge.Edge.{Edge}
use Rattle.scene_model.specs.declared.edit.Edit.TheVariants.{Set}
use Rattle.scene_model.specs.declared.pin.Pin.{Pin}
use Rattle.scene_model.specs.declared.settings.Setting.{Setting}
use Rattle.scene_model.specs.declared.settings.Setting.TheVariants.{Penalty, Buffer, Nudge}
use Rattle.scene_model.specs.Scene.{Scene, empty_scene, node_with, has_class, pin_count, via_count}
use Rattle.scene_model.specs.Valid.{IsOnField, IsPin, IsNode, IsEdge, IsValid}
use Rattle.scene_model.specs.Edits.{changed, half, is_off, is_outside, out_of_limits}
use Rattle.scene_model.specs.Loads.{IsLoadablePin}
use Rattle.scene_model.proofs.Directions.{tested}
use Rattle.scene_model.proofs.Directions.Tested.{yes, no}
use Rattle.scene_model.proofs.Editing.EdgeEdits.{edge_added, set_value, within_field}
use Rattle.scene_model.proofs.Editing.Entries.{found_passes, pairs_to}
use Rattle.scene_model.proofs.Editing.NodeEdits.{node_added, inside, within_field as within_with}
use Rattle.scene_model.proofs.Editing.Refusals.{none_of, or_none}
use Rattle.diagram_read.specs.declared.fault.Part.TheVariants as part
use Rattle.diagram_read.specs.declared.fault.DiagramFault.{DiagramFault}
use Rattle.diagram_read.specs.declared.fault.DiagramFault.TheVariants.{NoGraph, BadId, SameId, NoPlace, BadNumber, BadEnd, OutOfRange, TooMany, BadPin, BadVia, BadWeight}
use Rattle.diagram_read.specs.Checkpoints.{checkpoint_of, on_field}
use Rattle.diagram_read.specs.Edges.{end_node, own_class, class_in, weight_in, with_via, loop_at, connector_in, edge_in, with_edge_in}
use Rattle.diagram_read.specs.Faults.{need, refuse, each}
use Rattle.diagram_read.specs.Nodes.{size_in, boxed, bare_node, with_pin, node_in, with_node_in, with_nodes_in}
use Rattle.diagram_read.specs.Pins.{added_class, dirs_in, cost_in, within_box, pin_of}
use Rattle.diagram_read.specs.Scene.{scene_of}
use Rattle.diagram_read.specs.Settings.{with_setting_read, with_setting_at, with_settings_in}
use Rattle.diagram_read.specs.Values.{ListEntry, as_list, value_at, values_at, list_at, entries_from, milli_of, in_range, exact_at, is_no_number, id_of, class_of, in_classes}
use Rattle.diagram_read.proofs.EdgesRead.{IsRoomyEdge, edge_roomy}
use Rattle.diagram_read.proofs.NodesRead.{IsRoomy, node_roomy}
use Rattle.diagram_read.proofs.PinsRead.{pin_loadable, some_holds}
use Rattle.diagram_read.proofs.Steps.{bound, chosen, kept, ok_holds, not_refused, there}
use Rattle.form_check.proofs.Counts.{parted}

-- ---- pins

in_classes_low : (value : ℤ) (class : ℕ) → in_classes value ≡ Some class → class ≤ 65535
in_classes_low value class is = elim (tested (int_lt value (pos 0) || int_lt (pos 65535) value)) as (λ _. class ≤ 65535) [
  | yes h ↦ absurd (none-some class (rw h at is))
  | no h ↦
      (let within = or_none (int_lt value (pos 0)) (int_lt (pos 65535) value) h in
      let same = same_Some (unsigned_abs value) class (rw h at is) in
      omega (arith, ints, within.0, within.1, same))
]

class_low : (value : Content) (class : ℕ) → class_of value ≡ Some class → class ≤ 65535
class_low (number bytes) class is = (let whole = parted in_classes (read_whole (length bytes) bytes) class is in in_classes_low whole.0 class whole.2)
class_low (text bytes) class is = absurd (none-some class is)
class_low (list inner) class is = absurd (none-some class is)

record IsAdded (class added : ℕ) : Type 0 where
  pub some : 0 < added
  pub same : class ≡ added

class_added : (class added : ℕ) → added_class class ≡ Some added → IsAdded class added
class_added class added is = elim (tested (class == 0)) as (λ _. IsAdded class added) [
  | yes h ↦ absurd (none-some added (rw h at is))
  | no h ↦
      (let same = same_Some class added (rw h at is) in
      let other = eqb-false class 0 h in
      record { some = omega (arith, other, same); same = same })
]

record IsInBox (n : Node) (p q : Pin) : Type 0 where
  pub same : p ≡ q
  pub inside : is_outside n.half_w n.half_h q ≡ false

in_box : (n : Node) (p q : Pin) → within_box n p ≡ Some q → IsInBox n p q
in_box n p q is = elim (tested (is_outside n.half_w n.half_h p)) as (λ _. IsInBox n p q) [
  | yes h ↦ absurd (none-some q (rw h at is))
  | no h ↦ (let same = same_Some p q (rw h at is) in record { same = same; inside = subst (λ (r : Pin). is_outside n.half_w n.half_h r ≡ false) same h })
]

pin_read : (n : Node) (value : Content) (p : Pin) → pin_of n value ≡ Some p → IsPin n.half_w n.half_h p
pin_read n value p is =
    let loadable = some_holds (pin_of n value) p IsLoadablePin is (pin_loadable n value) in
    let pairs = parted _ (as_list value) p is in
    let class = parted _ (option_and_then class_of (value_at (codes "class") pairs.0)) p pairs.2 in
    let added = parted _ (added_class class.0) p class.2 in
    let dx = parted _ (exact_at (codes "x") pairs.0) p added.2 in
    let dy = parted _ (exact_at (codes "y") pairs.0) p dx.2 in
    let dirs = parted _ (dirs_in (value_at (codes "dirs") pairs.0)) p dy.2 in
    let cost = parted _ (cost_in (value_at (codes "cost") pairs.0)) p dirs.2 in
    let boxed = in_box n (record { class = added.0; dx = dx.0; dy = dy.0; dirs = dirs.0; cost = cost.0 }) p cost.2 in
    let place = inside n.half_w n.half_h p boxed.inside in
    let own = class_added class.0 added.0 added.1 in
    let class_parts = parted class_of (value_at (codes "class") pairs.0) class.0 class.1 in
    let low = class_low class_parts.0 class.0 class_parts.2 in
    let is_class : added.0 ≡ p.class = ap (λ (q : Pin). q.class) boxed.same in
    let some = own.some in
    let same = own.same in
    record {
      some_class = omega (arith, some, is_class);
      low_class = omega (arith, low, same, is_class);
      direction = loadable.direction;
      x = place.0;
      y = place.1;
      cost = loadable.cost;
      low_cost = loadable.low_cost;
    }

-- ---- nodes

-- the node with this id is good so far
record IsGood (id : ℤ) (n : Node) : Type 0 where
  pub node : IsNode n
  pub own : n.id ≡ id

boxed_good : (place : ℕ) (id : ℤ) (entry : ListEntry) (x y w h : Result ℤ MilliFault) → IfOk (boxed place id entry x y w h) (IsGood id)
boxed_good place id entry x y w h =
    bound _ (refuse (BadNumber part.Node place) (is_no_number x || (is_no_number y || (is_no_number w || is_no_number h)))) _ (λ numbers a.
    bound _ (need (OutOfRange part.Node place) (in_range x)) _ (λ x b.
    bound _ (need (OutOfRange part.Node place) (in_range y)) _ (λ y c.
    bound _ (need (OutOfRange part.Node place) (in_range w)) _ (λ w d.
    bound _ (need (OutOfRange part.Node place) (in_range h)) _ (λ h e.
    bound _ (refuse (OutOfRange part.Node place) (int_lt w (pos 0) || int_lt h (pos 0))) _ (λ sizes f.
    bound _ (refuse (OutOfRange part.Node place) (is_off x (half w) || is_off y (half h))) _ (λ corners g.
    let within = or_none (is_off x (half w)) (is_off y (half h)) (not_refused (OutOfRange part.Node place) (is_off x (half w) || is_off y (half h)) corners g) in
    record {
      node = record {
        half_w = omega (arith, ints);
        half_h = omega (arith, ints);
        x = within_with x (half w) within.0;
        y = within_with y (half h) within.1;
        pins = All-nil (IsPin (half w) (half h));
      };
      own = refl;
    })))))))

bare_good : (place : ℕ) (id : ℤ) (entry : ListEntry) → IfOk (bare_node place id entry) (IsGood id)
bare_good place id entry =
    bound _ (need (NoPlace place) (option_and_then as_list (value_at (codes "graphics") entry.1))) _ (λ graphics a.
    bound _ (need (NoPlace place) (value_at (codes "x") graphics)) _ (λ x b.
    bound _ (need (NoPlace place) (value_at (codes "y") graphics)) _ (λ y c.
    boxed_good place id entry (milli_of x) (milli_of y) (size_in (value_at (codes "w") graphics)) (size_in (value_at (codes "h") graphics)))))

pin_good : (place before : ℕ) (id : ℤ) (n : Node) (value : Content) → IsGood id n → IfOk (with_pin place before n value) (IsGood id)
pin_good place before id n value good =
    bound _ (refuse (TooMany part.Pin) (nat_le 256 (before + length n.pins))) _ (λ few is.
    bound _ (need (BadPin place) (pin_of n value)) _ (λ pin got.
    record {
      node = record {
        half_w = good.node.half_w;
        half_h = good.node.half_h;
        x = good.node.x;
        y = good.node.y;
        pins = All-push (IsPin n.half_w n.half_h) n.pins pin good.node.pins (pin_read n value pin (there (BadPin place) (pin_of n value) pin got));
      };
      own = good.own;
    }))

-- the node is good, and new in the scene, which has room for it
record IsFresh (s : Scene) (n : Node) : Type 0 where
  pub node : IsNode n
  pub fresh : node_with s n.id ≡ None
  pub room : length s.nodes < 256

fresh_all : (s : Scene) (id : ℤ) (r : Result Node DiagramFault) → node_with s id ≡ None → length s.nodes < 256 → IfOk r (IsGood id) → IfOk r (IsFresh s)
fresh_all s id (Ok n) fresh room good = record { node = good.node; fresh = ap (node_with s) good.own ∙ fresh; room = room }
fresh_all s id (Err fault) fresh room good = tt

node_fresh : (s : Scene) (entry : ListEntry) → IfOk (node_in s entry) (IsFresh s)
node_fresh s entry =
    let place = suc (length s.nodes) in
    bound _ (refuse (TooMany part.Node) (nat_le 256 (length s.nodes))) _ (λ nodes a.
    bound _ (need (BadId place) (option_and_then id_of (value_at (codes "id") entry.1))) _ (λ id b.
    bound _ (refuse (SameId place) (is_some (node_with s id))) _ (λ new c.
    bound _ (bare_node place id entry) _ (λ n d.
    let fresh = none_of (node_with s id) (not_refused (SameId place) (is_some (node_with s id)) new c) in
    let room = leb-false 256 (length s.nodes) (not_refused (TooMany part.Node) (nat_le 256 (length s.nodes)) nodes a) in
    fresh_all s id (each (with_pin place (pin_count s)) n (values_at (codes "pin") entry.1)) fresh (omega (arith, room))
    (kept (IsGood id) (with_pin place (pin_count s)) (λ m value. pin_good place (pin_count s) id m value) n (values_at (codes "pin") entry.1)
    (ok_holds (bare_node place id entry) n (IsGood id) d (bare_good place id entry)))))))

-- ---- edges

-- the scene is valid, and its edges are numbered one after another
pub record IsNumbered (s : Scene) : Type 0 where
  pub valid : IsValid s
  pub numbered : s.next_edge ≡ suc (length s.edges)

node_kept : (s : Scene) (entry : ListEntry) → IsNumbered s → IfOk (with_node_in s entry) IsNumbered
node_kept s entry is =
    bound _ (node_in s entry) _ (λ n e.
    let fresh = ok_holds (node_in s entry) n (IsFresh s) e (node_fresh s entry) in
    let roomy = ok_holds (node_in s entry) n (IsRoomy (pin_count s)) e (node_roomy s entry is.valid.few_pins) in
    record { valid = node_added s n is.valid fresh.fresh fresh.node fresh.room roomy.few; numbered = is.numbered })

-- the node at an end has the class
abbrev Serves : Scene → ℤ → ℕ → Type 0
Serves s id class = IsSomeAnd (node_with s id) (λ n. IsTrue (has_class n class))

end_known : (s : Scene) (value : Option Content) (n : Node) → end_node s value ≡ Some n → node_with s n.id ≡ Some n
end_known s value n is =
    let named = parted (node_with s) (option_and_then id_of value) n is in
    let own = (Decides-int_eq n.id named.0).0 (found_passes (λ (m : Node). int_eq m.id named.0) s.nodes n named.2) in
    ap (node_with s) own ∙ named.2

served : (s : Scene) (n : Node) (class : ℕ) → node_with s n.id ≡ Some n → IsTrue (has_class n class) → Serves s n.id class
served s n class known has = subst (λ o. IsSomeAnd o (λ m. IsTrue (has_class m class))) (sym known) has

class_owned : (n : Node) (c class : ℕ) → own_class n c ≡ Some class → IsTrue (has_class n class)
class_owned n c class is = elim (tested (has_class n c)) as (λ _. IsTrue (has_class n class)) [
  | yes h ↦ (let same = same_Some c class (rw h at is) in subst (λ (k : ℕ). has_class n k ≡ true) same h)
  | no h ↦ absurd (none-some class (rw h at is))
]

class_had : (n : Node) (value : Option Content) (class : ℕ) → class_in n value ≡ Some class → IsTrue (has_class n class)
class_had n None class is = subst (λ (k : ℕ). IsTrue (has_class n k)) (same_Some 0 class is) refl
class_had n (Some value) class is = (let named = parted (own_class n) (class_of value) class is in class_owned n named.0 class named.2)

record AreVia (points : List Point) : Type 0 where
  pub few : length points ≤ 4
  pub on_field : All IsOnField points

point_read : (value : Content) (p : Point) → checkpoint_of value ≡ Some p → IsOnField p
point_read value p is =
    let pairs = parted _ (as_list value) p is in
    let x = parted _ (exact_at (codes "x") pairs.0) p pairs.2 in
    let y = parted _ (exact_at (codes "y") pairs.0) p x.2 in
    on (record { x = x.0; y = y.0 }) y.2
  where
    on : (q : Point) → on_field q ≡ Some p → IsOnField p
    on q is = elim (tested (is_off q.x (pos 0) || is_off q.y (pos 0))) as (λ _. IsOnField p) [
      | yes h ↦ absurd (none-some p (rw h at is))
      | no h ↦
          (let within = or_none (is_off q.x (pos 0)) (is_off q.y (pos 0)) h in
          subst IsOnField (same_Some q p (rw h at is)) (record { x = within_field q.x within.0; y = within_field q.y within.1 }))
    ]

via_kept : (place before : ℕ) (points : List Point) (value : Content) → AreVia points → IfOk (with_via place before points value) AreVia
via_kept place before points value are =
    bound _ (refuse (TooMany part.Via) (nat_le 4 (length points) || nat_le 256 (before + length points))) _ (λ room is.
    bound _ (need (BadVia place) (checkpoint_of value)) _ (λ point got.
    let fits = or_none (nat_le 4 (length points)) (nat_le 256 (before + length points)) (not_refused (TooMany part.Via) (nat_le 4 (length points) || nat_le 256 (before + length points)) room is) in
    let below = leb-false 4 (length points) fits.0 in
    let more = length-append points (point ∷ []) in
    record { few = omega (arith, below, more); on_field = All-push IsOnField points point are.on_field (point_read value point (there (BadVia place) (checkpoint_of value) point got)) }))

-- what an edge's ends and checkpoints are
record IsTied (s : Scene) (e : Edge) : Type 0 where
  pub from : Serves s e.from e.from_class
  pub to : Serves s e.to e.to_class
  pub via : AreVia e.via
  pub room : length s.edges < 512

connector_tied : (s : Scene) (place before : ℕ) (from to : Node) (entry : ListEntry) → node_with s from.id ≡ Some from → node_with s to.id ≡ Some to → length s.edges < 512
    → IfOk (connector_in place before from to entry) (IsTied s)
connector_tied s place before from to entry source target room =
    bound _ (need (BadEnd place) (class_in from (value_at (codes "sourcePin") entry.1))) _ (λ from_class a.
    bound _ (need (BadEnd place) (class_in to (value_at (codes "targetPin") entry.1))) _ (λ to_class b.
    bound _ (each (with_via place before) [] (values_at (codes "via") entry.1)) _ (λ via c.
    bound _ (need (BadWeight place) (weight_in (value_at (codes "nudgeWeight") entry.1))) _ (λ weight d.
    record {
      from = served s from from_class source (class_had from (value_at (codes "sourcePin") entry.1) from_class (there (BadEnd place) (class_in from (value_at (codes "sourcePin") entry.1)) from_class a));
      to = served s to to_class target (class_had to (value_at (codes "targetPin") entry.1) to_class (there (BadEnd place) (class_in to (value_at (codes "targetPin") entry.1)) to_class b));
      via = ok_holds (each (with_via place before) [] (values_at (codes "via") entry.1)) via AreVia c
          (kept AreVia (with_via place before) (via_kept place before) [] (values_at (codes "via") entry.1) (record { few = omega arith; on_field = All-nil IsOnField }));
      room = room;
    }))))

edge_tied : (s : Scene) (entry : ListEntry) → IfOk (edge_in s entry) (IsTied s)
edge_tied s entry =
    let place = suc (length s.edges) in
    let source = value_at (codes "source") entry.1 in
    let target = value_at (codes "target") entry.1 in
    bound _ (refuse (TooMany part.Edge) (nat_le 512 (length s.edges))) _ (λ few is.
    let room = leb-false 512 (length s.edges) (not_refused (TooMany part.Edge) (nat_le 512 (length s.edges)) few is) in
    bound _ (need (BadEnd place) (end_node s source)) _ (λ from a.
    bound _ (need (BadEnd place) (end_node s target)) _ (λ to b.
    let here = end_known s source from (there (BadEnd place) (end_node s source) from a) in
    let there' = end_known s target to (there (BadEnd place) (end_node s target) to b) in
    chosen _ (int_eq from.id to.id) (Ok (loop_at place from.id entry.0)) (connector_in place (via_count s) from to entry)
    (λ same. record {
      from = served s from 0 here refl;
      to = served s from 0 here refl;
      via = record { few = omega arith; on_field = All-nil IsOnField };
      room = omega (arith, room);
    })
    (λ other. connector_tied s place (via_count s) from to entry here there' (omega (arith, room))))))

edge_kept : (s : Scene) (entry : ListEntry) → IsNumbered s → IfOk (with_edge_in s entry) IsNumbered
edge_kept s entry is =
    bound _ (edge_in s entry) _ (λ e got.
    let roomy = ok_holds (edge_in s entry) e (IsRoomyEdge s) got (edge_roomy s entry is.numbered is.valid.few_via) in
    let tied = ok_holds (edge_in s entry) e (IsTied s) got (edge_tied s entry) in
    let edge : IsEdge s e = record {
      from = tied.from;
      to = tied.to;
      loop = roomy.loadable.loop;
      some_weight = roomy.loadable.some_weight;
      low_weight = roomy.loadable.low_weight;
      few_via = tied.via.few;
      via = tied.via.on_field;
    } in
    let more = length-append s.edges (e ∷ []) in
    let number = roomy.number in
    record { valid = edge_added s e is.valid edge roomy.loadable.next roomy.loadable.low tied.room roomy.few; numbered = omega (arith, more, number) })

-- ---- settings, and all of them

setting_kept : (what : Setting) (s : Scene) (o : Option (Result ℤ MilliFault)) → IsNumbered s → IfOk (with_setting_read what s o) IsNumbered
setting_kept what s None is = is
setting_kept what s (Some (Err milli.NotNumber)) is = tt
setting_kept what s (Some (Err milli.OutOfRange)) is = tt
setting_kept what s (Some (Ok value)) is =
    chosen _ (out_of_limits what value) (Err (OutOfRange part.Router 0)) (Ok (changed (Set what value) s)) (λ far. tt)
    (λ near. record { valid = set_value s what value is.valid (rw near refl); numbered = is.numbered })

settings_kept : (o : Option Pairs) (s : Scene) → IsNumbered s → IfOk (with_settings_in o s) IsNumbered
settings_kept None s is = is
settings_kept (Some router) s is =
    bound _ (with_setting_at Penalty (codes "penalty") router s) _ (λ first a.
    bound _ (with_setting_at Buffer (codes "buffer") router first) _ (λ second b.
    let one = ok_holds (with_setting_at Penalty (codes "penalty") router s) first IsNumbered a (setting_kept Penalty s (option_map milli_of (value_at (codes "penalty") router)) is) in
    let two = ok_holds (with_setting_at Buffer (codes "buffer") router first) second IsNumbered b (setting_kept Buffer first (option_map milli_of (value_at (codes "buffer") router)) one) in
    setting_kept Nudge second (option_map milli_of (value_at (codes "nudge") router)) two))

empty_numbered : IsNumbered empty_scene
empty_numbered = record {
  valid = record {
    ids_differ = pairs_to (λ (m n : Node). m.id ≢ n.id) [] tt;
    nodes = All-nil IsNode;
    few_nodes = omega arith;
    few_pins = omega arith;
    numbers_rise = pairs_to (λ (d e : Edge). d.number < e.number) [] tt;
    below_next = All-nil (λ (e : Edge). e.number < 1);
    edges = All-nil (IsEdge empty_scene);
    few_edges = omega arith;
    few_via = omega arith;
    settings = record {
      penalty = omega (arith, ints);
      low_penalty = omega (arith, ints);
      buffer = omega (arith, ints);
      low_buffer = omega (arith, ints);
      nudge = omega (arith, ints);
      low_nudge = omega (arith, ints);
    };
    next = omega arith;
  };
  numbered = refl;
}

pub scene_valid : (tree : Pairs) (s : Scene) → scene_of tree ≡ Ok s → IsValid s
scene_valid tree s is =
    let all = ok_holds (scene_of tree) s IsNumbered is
    (bound _ (need NoGraph (list_at (codes "graph") tree)) _ (λ graph a.
    bound _ (with_settings_in (list_at (codes "router") graph) empty_scene) _ (λ set b.
    bound _ (with_nodes_in set (entries_from 0 (codes "node") graph)) _ (λ noded c.
    let setting = ok_holds (with_settings_in (list_at (codes "router") graph) empty_scene) set IsNumbered b (settings_kept (list_at (codes "router") graph) empty_scene empty_numbered) in
    let nodes = ok_holds (with_nodes_in set (entries_from 0 (codes "node") graph)) noded IsNumbered c (kept IsNumbered with_node_in node_kept set (entries_from 0 (codes "node") graph) setting) in
    kept IsNumbered with_edge_in edge_kept noded (entries_from 0 (codes "edge") graph) nodes)))) in
    all.valid
