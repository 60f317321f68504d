-- A tree that has a valid scene is read as this scene.
use Rattle.std.proofs.Common.{◌≡◌, ℕ, suc, ◌+◌, ◌<◌, ◌≤◌, ◌^◌, Bool, true, false, List, [], ◌∷◌, ◌++◌, length, Option, Some, None, Result, Ok, refl, sym, ap, subst, ◌∙◌, arith, length-append, int_eq, le-ltb}
use Rattle.std.specs.Prelude.{ℤ, pos, ◌≤ℤ◌, ◌==◌, ◌||◌, codes, find, int_lt, is_some, nat_le, option_and_then, option_map, sum_by, unsigned_abs, IsSomeAnd, IsTrue}
use Rattle.std.specs.List.{AllByRecursion, AllZip}
use Rattle.std.proofs.lemmas.Bool.{false≢true}
use Rattle.std.proofs.lemmas.Bool.Decides.{Decides-int_eq, nat_tests}
use Rattle.std.proofs.lemmas.Int.{ints}
use Rattle.std.proofs.lemmas.List.{append-nil, append_assoc}
use Rattle.std.proofs.lemmas.List.Elements.{recursion_from_All}
use Rattle.std.proofs.lemmas.List.Sums.{sum_by-append, sum_by-cons}
use Rattle.gml_text.specs.Tree.{Content, Pairs}
use Rattle.plane_geom.specs.declared.point.Point.{Point}
use Rattle.scene_model.specs.declared.edge.Edge.{Edge}
use Rattle.scene_model.specs.declared.node.Node.{Node}
use Rattle.scene_model.specs.declared.pin.Pin.{Pin}
use Rattle.scene_model.specs.declared.settings.Setting.{Setting}
use Rattle.scene_model.specs.declared.settings.Setting.TheVariants.{Penalty, Buffer, Nudge}
use Rattle.scene_model.specs.declared.settings.Settings.{Settings}
use Rattle.scene_model.specs.Edits.{half, is_off, out_of_limits, with_setting}
use Rattle.scene_model.specs.Scene.{Scene, default_settings, empty_scene, has_class, node_with, pin_count, via_count}
use Rattle.scene_model.specs.Valid.{AreSettings, IsEdge, IsNode, IsPin, IsValid}
use Rattle.scene_model.proofs.Directions.{tested}
use Rattle.scene_model.proofs.Directions.Tested.{yes, no}
use Rattle.scene_model.proofs.Editing.Entries.{pairs_from}
use Rattle.scene_model.proofs.Editing.Entries as entries
use Rattle.diagram_read.specs.declared.fault.DiagramFault.{DiagramFault}
use Rattle.diagram_read.specs.Edges.{class_in, connector_in, edge_in, end_node, with_edge_in, with_edges_in, with_via}
use Rattle.diagram_read.specs.Faults.{◌>>=◌, each}
use Rattle.diagram_read.specs.Nodes.{bare_node, node_in, with_node_in, with_nodes_in, with_pin}
use Rattle.diagram_read.specs.Pins.{pin_of}
use Rattle.diagram_read.specs.Scene.{scene_of}
use Rattle.diagram_read.specs.Settings.{with_setting_at, with_setting_read, with_settings_in}
use Rattle.diagram_read.specs.Values.{ListEntry, entries_from, in_range, list_at, milli_of, number_in, value_at, values_at}
use Rattle.diagram_read.proofs.EdgesRead.{edge_read_as, other_ends}
use Rattle.diagram_read.proofs.NodesRead.{node_read_as}
use Rattle.diagram_read.proofs.Steps.{ok_holds}
use Rattle.existence_laws.specs.Diagrams.{AreEdgesOf, AreSettingsOf, IsEdgeOf, IsEnd, IsNodeOf, IsPinOf, IsSceneOf, IsSetting, IsVia, TreesHaveScenes, class_at}
use Rattle.existence_laws.proofs.Keeping.{scene_valid}
use Rattle.existence_laws.proofs.Describing.{in_range_ok, one_scene, scene_is, setting_of, unchanged}

-- a step that is read leads to the next
step : {A B : Type 0} (r : Result A DiagramFault) (x : A) (next : A → Result B DiagramFault) → r ≡ Ok x → (r >>= next) ≡ next x
step r x next is = ap (λ q. q >>= next) is

not_less : (a b : ℤ) → b ≤ℤ a → int_lt a b ≡ false
not_less a b le = elim (tested (int_lt a b)) [ yes h ↦ absurd (omega (arith, ints, h, le)) | no h ↦ h ]

neither : (a b : Bool) → a ≡ false → b ≡ false → (a || b) ≡ false
neither a b h k = rw (h, k) refl

fewer : (most n : ℕ) → n < most → nat_le most n ≡ false
fewer most n below = grind (arith, nat_tests, below)

-- ---- settings

in_limits : (low v high : ℤ) → low ≤ℤ v → v ≤ℤ high → (int_lt v low || int_lt high v) ≡ false
in_limits low v high a b = neither (int_lt v low) (int_lt high v) (not_less v low a) (not_less high v b)

setting_back : (what : Setting) (s : Scene) (value : Option Content) (v : ℤ) → IsSetting value (setting_of what s.settings) v → out_of_limits what v ≡ false
    → with_setting_read what s (option_map milli_of value) ≡ Ok (record s { settings = with_setting what v s.settings })
setting_back what s None v h within = ap (λ (t : Settings). Ok (record s { settings = t })) (unchanged what s.settings ∙ ap (λ d. with_setting what d s.settings) (sym h))
setting_back what s (Some value) v h within = rw (h, within) refl

settings_back : (router : Option Pairs) (t : Settings) → AreSettingsOf router t → AreSettings t → with_settings_in router empty_scene ≡ Ok (record empty_scene { settings = t })
settings_back None t h within =
    let penalty = h.penalty in
    let buffer = h.buffer in
    let nudge = h.nudge in
    λ i. Ok (record empty_scene { settings = record { penalty = sym penalty i; buffer = sym buffer i; nudge = sym nudge i } })
settings_back (Some router) t h within =
    let one : Scene = record empty_scene { settings = with_setting Penalty t.penalty default_settings } in
    let two : Scene = record empty_scene { settings = with_setting Buffer t.buffer one.settings } in
    step (with_setting_at Penalty (codes "penalty") router empty_scene) one (λ first. with_setting_at Buffer (codes "buffer") router first >>= (λ second. with_setting_at Nudge (codes "nudge") router second))
    (setting_back Penalty empty_scene (value_at (codes "penalty") router) t.penalty h.penalty (in_limits (pos 1) t.penalty (pos (10 ^ 9)) within.penalty within.low_penalty))
    ∙ step (with_setting_at Buffer (codes "buffer") router one) two (λ second. with_setting_at Nudge (codes "nudge") router second)
    (setting_back Buffer one (value_at (codes "buffer") router) t.buffer h.buffer (in_limits (pos 1) t.buffer (pos (10 ^ 6)) within.buffer within.low_buffer))
    ∙ setting_back Nudge two (value_at (codes "nudge") router) t.nudge h.nudge (in_limits (pos 0) t.nudge (pos (10 ^ 6)) within.nudge within.low_nudge)

-- ---- nodes

pin_back : (n : Node) (value : Content) (p : Pin) → IsPinOf value p → IsPin n.half_w n.half_h p → pin_of n value ≡ Some p
pin_back n value p h within =
    let some = within.some_class in
    let added : (p.class == 0) ≡ false = grind (arith, nat_tests, some) in
    let wide = le-ltb (unsigned_abs n.half_w) (unsigned_abs p.dx) within.x in
    let high = le-ltb (unsigned_abs n.half_h) (unsigned_abs p.dy) within.y in
    rw (h.is_list, h.class, added, h.dx, h.dy, h.dirs, h.cost, wide, high) refl

pins_back : (place before : ℕ) (n : Node) (seen rest : List Pin) (values : List Content) → AllZip IsPinOf values rest → AllByRecursion (IsPin n.half_w n.half_h) rest → before + length (seen ++ rest) ≤ 256
    → each (with_pin place before) (record n { pins = seen }) values ≡ Ok (record n { pins = seen ++ rest })
pins_back place before n seen [] [] h within few = ap (λ ps. Ok (record n { pins = ps })) (sym (append-nil seen))
pins_back place before n seen [] (value ∷ values) h within few = absurd h
pins_back place before n seen (p ∷ rest) [] h within few = absurd h
pins_back place before n seen (p ∷ rest) (value ∷ values) h within few =
    let m : Node = record n { pins = seen } in
    let long = length-append seen (p ∷ rest) in
    let room = fewer 256 (before + length seen) (omega (arith, few, long)) in
    let same = append_assoc seen (p ∷ []) rest in
    let all : before + length (seen ++ p ∷ [] ++ rest) ≤ 256 = subst (λ (ps : List Pin). before + length ps ≤ 256) (sym same) few in
    let one : with_pin place before m value ≡ Ok (record n { pins = seen ++ p ∷ [] }) = rw (room, pin_back m value p h.0 within.0) refl in
    step (with_pin place before m value) (record n { pins = seen ++ p ∷ [] }) (λ next. each (with_pin place before) next values) one
    ∙ pins_back place before n (seen ++ p ∷ []) rest values h.1 within.1 all ∙ ap (λ ps. Ok (record n { pins = ps })) same

-- the number under a key
record Given (o : Option Content) (v : ℤ) : Type 0 where
  value : Content
  is : o ≡ Some value
  read : milli_of value ≡ Ok v

given : (o : Option Content) (v : ℤ) → in_range (number_in o) ≡ Some v → Given o v
given None v h = cc
given (Some value) v h = record { value = value; is = refl; read = in_range_ok (milli_of value) v h }

on_field : (x half_size size : ℤ) → half_size ≡ half size → unsigned_abs x + unsigned_abs half_size ≤ 10 ^ 9 → is_off x (half size) ≡ false
on_field x half_size size is within = ap (is_off x) (sym is) ∙ le-ltb (10 ^ 9) (unsigned_abs x + unsigned_abs half_size) within

bare_back : (place : ℕ) (entry : ListEntry) (n : Node) → IsNodeOf entry n → IsNode n → bare_node place n.id entry ≡ Ok (record n { pins = [] })
bare_back place entry n h within =
    let x = given (value_at (codes "x") h.graphics) n.x h.x in
    let y = given (value_at (codes "y") h.graphics) n.y h.y in
    let w = h.width in
    let t = h.height in
    let group = h.group in
    let origin = h.origin in
    rw (h.is_list, x.is, y.is, x.read, y.read, w.1, t.1, not_less w.0 (pos 0) w.2, not_less t.0 (pos 0) t.2, on_field n.x n.half_w w.0 w.3 within.x, on_field n.y n.half_h t.0 t.3 within.y)
    (λ i. Ok (record { id = n.id; x = n.x; y = n.y; half_w = sym w.3 i; half_h = sym t.3 i; group = sym group i; pins = []; origin = sym origin i }))

node_back : (s : Scene) (entry : ListEntry) (n : Node) → IsNodeOf entry n → IsNode n → length s.nodes < 256 → pin_count s + length n.pins ≤ 256 → is_some (node_with s n.id) ≡ false → node_in s entry ≡ Ok n
node_back s entry n h within few room new =
    let place = suc (length s.nodes) in
    let pins = values_at (codes "pin") entry.1 in
    node_read_as s entry n.id place (pin_count s) refl refl few h.id new
    ∙ step (bare_node place n.id entry) (record n { pins = [] }) (λ m. each (with_pin place (pin_count s)) m pins) (bare_back place entry n h within)
    ∙ pins_back place (pin_count s) n [] n.pins pins h.pins (recursion_from_All (IsPin n.half_w n.half_h) n.pins within.pins) room

abbrev Differ : Node → Node → Type 0
Differ m n = m.id ≡ n.id → ⊥

related : {X : Type 0} (P : X → Type 0) (xs : List X) (y : X) (ys : List X) → AllByRecursion P (xs ++ y ∷ ys) → P y
related P [] y ys h = h.0
related P (x ∷ xs) y ys h = related P xs y ys h.1

is_new : (seen : List Node) (n : Node) (rest : List Node) → entries.Pairs Differ (seen ++ n ∷ rest) → is_some (find (λ m. int_eq m.id n.id) seen) ≡ false
is_new [] n rest h = refl
is_new (m ∷ seen) n rest h = rw (other_ends m.id n.id (related (Differ m) seen n rest h.0)) (is_new seen n rest h.1)

abbrev pins_of : List Node → ℕ
pins_of nodes = sum_by (λ n. length n.pins) nodes

nodes_back : (set : Scene) (seen rest : List Node) (lists : List ListEntry) → AllZip IsNodeOf lists rest → AllByRecursion IsNode rest → length (seen ++ rest) ≤ 256 → pins_of (seen ++ rest) ≤ 256 → entries.Pairs Differ (seen ++ rest)
    → with_nodes_in (record set { nodes = seen }) lists ≡ Ok (record set { nodes = seen ++ rest })
nodes_back set seen [] [] h within few room differ = ap (λ ns. Ok (record set { nodes = ns })) (sym (append-nil seen))
nodes_back set seen [] (entry ∷ lists) h within few room differ = absurd h
nodes_back set seen (n ∷ rest) [] h within few room differ = absurd h
nodes_back set seen (n ∷ rest) (entry ∷ lists) h within few room differ =
    let s : Scene = record set { nodes = seen } in
    let long = length-append seen (n ∷ rest) in
    let total = sum_by-append (λ (m : Node). length m.pins) seen (n ∷ rest) in
    let more = sum_by-cons (λ (m : Node). length m.pins) n rest in
    let same = append_assoc seen (n ∷ []) rest in
    let read = node_back s entry n h.0 within.0 (omega (arith, few, long)) (omega (arith, room, total, more)) (is_new seen n rest differ) in
    let one : with_node_in s entry ≡ Ok (record set { nodes = seen ++ n ∷ [] }) = ap (λ r. r >>= (λ m. Ok (record s { nodes = seen ++ m ∷ [] }))) read in
    step (with_node_in s entry) (record set { nodes = seen ++ n ∷ [] }) (λ next. each with_node_in next lists) one
    ∙ nodes_back set (seen ++ n ∷ []) rest lists h.1 within.1 (subst (λ (ns : List Node). length ns ≤ 256) (sym same) few) (subst (λ (ns : List Node). pins_of ns ≤ 256) (sym same) room) (subst (entries.Pairs Differ) (sym same) differ)
    ∙ ap (λ ns. Ok (record set { nodes = ns })) same

-- ---- edges

-- the node that an end names
record Named (s : Scene) (value : Option Content) (id : ℤ) : Type 0 where
  node : Node
  is : end_node s value ≡ Some node
  found : node_with s id ≡ Some node
  same : node.id ≡ id

value_of : {A : Type 0} (o : Option A) → is_some o ≡ true → (x : A) × (o ≡ Some x)
value_of None h = cc
value_of (Some x) h = (x, refl)

named : (s : Scene) (value : Option Content) (id : ℤ) → IsEnd s.nodes value id → Named s value id
named s value id h =
    let n = value_of (node_with s id) h.known in
    record {
      node = n.0;
      is = ap (option_and_then (node_with s)) h.given ∙ n.1;
      found = n.1;
      same = (Decides-int_eq n.0.id id).0 (entries.found_passes (λ (m : Node). int_eq m.id id) s.nodes n.0 n.1);
    }

class_back : (n : Node) (value : Option Content) (c : ℕ) → class_at value ≡ Some c → has_class n c ≡ true → class_in n value ≡ Some c
class_back n None c h has = h
class_back n (Some value) c h has = rw (h, has) refl

has_it : (o : Option Node) (n : Node) (c : ℕ) → o ≡ Some n → IsSomeAnd o (λ m. IsTrue (has_class m c)) → has_class n c ≡ true
has_it o n c is h = subst (λ (q : Option Node). IsSomeAnd q (λ m. IsTrue (has_class m c))) is h

via_back : (place before : ℕ) (seen rest : List Point) (values : List Content) → AllZip IsVia values rest → length (seen ++ rest) ≤ 4 → before + length (seen ++ rest) ≤ 256 → each (with_via place before) seen values ≡ Ok (seen ++ rest)
via_back place before seen [] [] h own few = ap Ok (sym (append-nil seen))
via_back place before seen [] (value ∷ values) h own few = absurd h
via_back place before seen (p ∷ rest) [] h own few = absurd h
via_back place before seen (p ∷ rest) (value ∷ values) h own few =
    let long = length-append seen (p ∷ rest) in
    let same = append_assoc seen (p ∷ []) rest in
    let one : with_via place before seen value ≡ Ok (seen ++ p ∷ []) = rw (fewer 4 (length seen) (omega (arith, own, long)), fewer 256 (before + length seen) (omega (arith, few, long)), h.0) refl in
    step (with_via place before seen value) (seen ++ p ∷ []) (λ next. each (with_via place before) next values) one
    ∙ via_back place before (seen ++ p ∷ []) rest values h.1 (subst (λ (ps : List Point). length ps ≤ 4) (sym same) own) (subst (λ (ps : List Point). before + length ps ≤ 256) (sym same) few)
    ∙ ap Ok same

module _ (s : Scene) (entry : ListEntry) (e : Edge) (h : IsEdgeOf s.nodes (suc (length s.edges)) entry e) (within : IsEdge s e) (few : length s.edges < 512) (room : via_count s + length e.via ≤ 256) where
  connector_back : (from to : Node) → node_with s e.from ≡ Some from → node_with s e.to ≡ Some to → from.id ≡ e.from → to.id ≡ e.to → (e.from ≡ e.to → ⊥) → connector_in (suc (length s.edges)) (via_count s) from to entry ≡ Ok e
  connector_back from to starts ends same_from same_to other =
      let c = h.connector other in
      let place = suc (length s.edges) in
      let numbered = h.numbered in
      let origin = h.origin in
      rw (
        class_back from (value_at (codes "sourcePin") entry.1) e.from_class c.from_class (has_it (node_with s e.from) from e.from_class starts within.from),
        class_back to (value_at (codes "targetPin") entry.1) e.to_class c.to_class (has_it (node_with s e.to) to e.to_class ends within.to),
        via_back place (via_count s) [] e.via (values_at (codes "via") entry.1) c.via within.few_via room,
        c.weight,
      )
      (λ i. Ok (record { number = sym numbered i; from = same_from i; to = same_to i; from_class = e.from_class; to_class = e.to_class; via = e.via; origin = sym origin i; weight = e.weight }))

  edge_back : edge_in s entry ≡ Ok e
  edge_back =
      let place = suc (length s.edges) in
      let from = named s (value_at (codes "source") entry.1) e.from h.from in
      let to = named s (value_at (codes "target") entry.1) e.to h.to in
      let numbered = h.numbered in
      let origin = h.origin in
      elim (tested (int_eq from.node.id to.node.id)) [
        | yes same ↦
            let loop : e.from ≡ e.to = sym from.same ∙ (Decides-int_eq from.node.id to.node.id).0 same ∙ to.same in
            let plain = h.loop loop in
            let starts = from.same in
            let ends = from.same ∙ loop in
            let from_class = plain.from_class in
            let to_class = plain.to_class in
            let via = plain.via in
            let weight = plain.weight in
            rw (fewer 512 (length s.edges) few, from.is, to.is, same)
            (λ i. Ok (record { number = sym numbered i; from = starts i; to = ends i; from_class = sym from_class i; to_class = sym to_class i; via = sym via i; origin = sym origin i; weight = sym weight i }))
        | no other ↦
            edge_read_as s entry from.node to.node place (via_count s) refl refl few from.is to.is other
            ∙ connector_back from.node to.node from.found to.found from.same to.same (λ same. false≢true (sym other ∙ (Decides-int_eq from.node.id to.node.id).1 (from.same ∙ same ∙ sym to.same)))
      ]

abbrev vias_of : List Edge → ℕ
vias_of edges = sum_by (λ e. length e.via) edges

-- the scene with these edges
abbrev edged : Scene → List Edge → Scene
edged noded edges = record noded { edges = edges; next_edge = length edges + 1 }

edges_back : (noded : Scene) (seen rest : List Edge) (lists : List ListEntry) → AreEdgesOf noded.nodes (length seen + 1) lists rest → AllByRecursion (IsEdge noded) rest → length (seen ++ rest) ≤ 512 → vias_of (seen ++ rest) ≤ 256
    → with_edges_in (edged noded seen) lists ≡ Ok (edged noded (seen ++ rest))
edges_back noded seen [] [] h within few room = ap (λ es. Ok (edged noded es)) (sym (append-nil seen))
edges_back noded seen [] (entry ∷ lists) h within few room = absurd h
edges_back noded seen (e ∷ rest) [] h within few room = absurd h
edges_back noded seen (e ∷ rest) (entry ∷ lists) h within few room =
    let s = edged noded seen in
    let long = length-append seen (e ∷ rest) in
    let pushed = length-append seen (e ∷ []) in
    let total = sum_by-append (λ (d : Edge). length d.via) seen (e ∷ rest) in
    let more = sum_by-cons (λ (d : Edge). length d.via) e rest in
    let same = append_assoc seen (e ∷ []) rest in
    let here : length seen + 1 ≡ suc (length seen) = omega arith in
    let first = subst (λ (n : ℕ). IsEdgeOf noded.nodes n entry e) here h.0 in
    let numbered = first.numbered in
    let whole : IsEdge s e = record { from = within.0.from; to = within.0.to; loop = within.0.loop; some_weight = within.0.some_weight; low_weight = within.0.low_weight; few_via = within.0.few_via; via = within.0.via } in
    let read : edge_in s entry ≡ Ok e = edge_back s entry e first whole (omega (arith, few, long)) (omega (arith, room, total, more)) in
    let next : suc e.number ≡ length (seen ++ e ∷ []) + 1 = omega (arith, numbered, pushed) in
    let one : with_edge_in s entry ≡ Ok (edged noded (seen ++ e ∷ [])) =
    ap (λ r. r >>= (λ d. Ok (record s { edges = seen ++ d ∷ []; next_edge = suc d.number }))) read ∙ ap (λ n. Ok (record noded { edges = seen ++ e ∷ []; next_edge = n })) next in
    let later : length (seen ++ e ∷ []) + 1 ≡ length seen + 1 + 1 = omega (arith, pushed) in
    step (with_edge_in s entry) (edged noded (seen ++ e ∷ [])) (λ t. each with_edge_in t lists) one
    ∙ edges_back noded (seen ++ e ∷ []) rest lists (subst (λ (n : ℕ). AreEdgesOf noded.nodes n lists rest) (sym later) h.1) within.1 (subst (λ (es : List Edge). length es ≤ 512) (sym same) few) (subst (λ (es : List Edge). vias_of es ≤ 256) (sym same) room)
    ∙ ap (λ es. Ok (edged noded es)) same

-- ---- the scene

scene_back : (tree : Pairs) (s : Scene) → IsSceneOf tree s → IsValid s → scene_of tree ≡ Ok s
scene_back tree s h valid =
    let set : Scene = record empty_scene { settings = s.settings } in
    let noded : Scene = record set { nodes = s.nodes } in
    let nodes = entries_from 0 (codes "node") h.graph in
    let edges = entries_from 0 (codes "edge") h.graph in
    let next = h.next_edge in
    let ends : AllByRecursion (IsEdge noded) s.edges = entries.each_weaker (IsEdge s) (IsEdge noded)
    (λ e w. record { from = w.from; to = w.to; loop = w.loop; some_weight = w.some_weight; low_weight = w.low_weight; few_via = w.few_via; via = w.via }) s.edges (recursion_from_All (IsEdge s) s.edges valid.edges) in
    rw h.is_graph
    (step (with_settings_in (list_at (codes "router") h.graph) empty_scene) set (λ t. with_nodes_in t nodes >>= (λ u. with_edges_in u edges)) (settings_back (list_at (codes "router") h.graph) s.settings h.settings valid.settings)
    ∙ step (with_nodes_in set nodes) noded (λ u. with_edges_in u edges)
    (nodes_back set [] s.nodes nodes h.nodes (recursion_from_All IsNode s.nodes valid.nodes) valid.few_nodes valid.few_pins (pairs_from Differ s.nodes valid.ids_differ))
    ∙ edges_back noded [] s.edges edges h.edges ends valid.few_edges valid.few_via
    ∙ (λ i. Ok (record { nodes = s.nodes; edges = s.edges; settings = s.settings; next_edge = sym next i })))

pub trees_have_scenes : TreesHaveScenes
trees_have_scenes = record {
  read = λ tree s. (λ is. (ok_holds (scene_of tree) s (IsSceneOf tree) is (scene_is tree), ok_holds (scene_of tree) s IsValid is (scene_valid tree)), λ h. scene_back tree s h.0 h.1);
  one = one_scene;
}
