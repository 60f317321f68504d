-- The scene that is read of a tree is the scene of the tree.
use Rattle.std.proofs.Common.{◌≡◌, ℕ, suc, ◌+◌, Bool, true, false, if◌then◌else◌, List, [], ◌∷◌, ◌++◌, length, Option, Some, None, Result, Ok, Err, refl, sym, ap, subst, ◌∙◌, arith, length-append, int_eq}
use Rattle.std.specs.Prelude.{ℤ, pos, ◌≤ℤ◌, ◌==◌, ◌||◌, codes, int_lt, is_some, nat_le, option_and_then, option_map, IfOk, IfSome}
use Rattle.std.specs.List.{AllZip}
use Rattle.std.proofs.lemmas.Bool.{false≢true}
use Rattle.std.proofs.lemmas.Bool.Decides.{Decides-int_eq}
use Rattle.std.proofs.lemmas.Int.{ints}
use Rattle.std.proofs.lemmas.List.{append-nil, append_assoc}
use Rattle.std.proofs.lemmas.Option.{same_Some}
use Rattle.fixed_milli.specs.declared.milli.MilliFault.{MilliFault}
use Rattle.fixed_milli.specs.declared.milli.MilliFault.TheVariants as milli
use Rattle.gml_text.specs.Tree.{Content, Pairs}
use Rattle.plane_geom.specs.declared.point.Point.{Point}
use Rattle.scene_model.specs.declared.edge.Edge.{Edge}
use Rattle.scene_model.specs.declared.node.Node.{Node}
use Rattle.scene_model.specs.declared.pin.Pin.{Pin}
use Rattle.scene_model.specs.declared.settings.Setting.{Setting}
use Rattle.scene_model.specs.declared.settings.Setting.TheVariants.{Penalty, Buffer, Nudge}
use Rattle.scene_model.specs.declared.settings.Settings.{Settings}
use Rattle.scene_model.specs.declared.edit.Edit.TheVariants.{Set}
use Rattle.scene_model.specs.Edits.{changed, half, is_off, is_outside, out_of_limits, with_setting}
use Rattle.scene_model.specs.Scene.{Scene, default_settings, empty_scene, has_class, node_with, pin_count, via_count}
use Rattle.scene_model.specs.Valid.{IsPlain}
use Rattle.scene_model.proofs.Directions.{tested}
use Rattle.scene_model.proofs.Directions.Tested.{yes, no}
use Rattle.scene_model.proofs.Editing.Entries.{found_passes}
use Rattle.scene_model.proofs.Editing.Refusals.{or_none}
use Rattle.diagram_read.specs.declared.fault.DiagramFault.{DiagramFault}
use Rattle.diagram_read.specs.declared.fault.DiagramFault.TheVariants.{NoGraph, BadId, SameId, NoPlace, BadNumber, BadEnd, OutOfRange, TooMany, BadPin, BadVia, BadWeight}
use Rattle.diagram_read.specs.declared.fault.Part.TheVariants as part
use Rattle.diagram_read.specs.Checkpoints.{checkpoint_of}
use Rattle.diagram_read.specs.Edges.{class_in, connector_in, edge_in, end_node, loop_at, own_class, weight_in, with_edge_in, with_edges_in, with_via}
use Rattle.diagram_read.specs.Faults.{each, need, refuse}
use Rattle.diagram_read.specs.Nodes.{bare_node, boxed, is_group_mark, node_in, size_in, with_node_in, with_nodes_in, with_pin}
use Rattle.diagram_read.specs.Pins.{added_class, cost_in, dirs_in, pin_of, within_box}
use Rattle.diagram_read.specs.Scene.{scene_of}
use Rattle.diagram_read.specs.Settings.{with_setting_at, with_setting_read, with_settings_in}
use Rattle.diagram_read.specs.Values.{ListEntry, as_list, class_of, entries_from, exact_at, id_of, in_range, is_no_number, list_at, milli_of, number_in, value_at, values_at}
use Rattle.diagram_read.proofs.PinsRead.{some_holds}
use Rattle.diagram_read.proofs.SettingsRead.{still_empty}
use Rattle.diagram_read.proofs.Steps.{bound, chosen, not_refused, ok_holds, there}
use Rattle.existence_laws.specs.Diagrams.{AreEdgesOf, AreSettingsOf, IsConnectorOf, IsEdgeOf, IsEnd, IsHalfOf, IsNodeOf, IsPinOf, IsSceneOf, IsSetting, IsVia, class_at}

-- ---- lists read one by one

-- what each step keeps of what was read holds at the end
collected : {S X : Type 0} (P : List X → S → Type 0) (step : S → X → Result S DiagramFault) → ((seen : List X) (s : S) (x : X) → P seen s → IfOk (step s x) (P (seen ++ x ∷ []))) → (seen : List X) (s : S) (xs : List X) → P seen s
    → IfOk (each step s xs) (P (seen ++ xs))
collected P step keeps seen s [] holds = subst (λ all. P all s) (sym (append-nil seen)) holds
collected P step keeps seen s (x ∷ xs) holds =
    bound _ (step s x) _ (λ next is.
    subst (λ all. IfOk (each step next xs) (P all)) (append_assoc seen (x ∷ []) xs) (collected P step keeps (seen ++ x ∷ []) next xs (ok_holds (step s x) next (P (seen ++ x ∷ [])) is (keeps seen s x holds))))

zip_more : {X Y : Type 0} (R : X → Y → Type 0) (xs : List X) (ys : List Y) (x : X) (y : Y) → AllZip R xs ys → R x y → AllZip R (xs ++ x ∷ []) (ys ++ y ∷ [])
zip_more R [] [] x y h r = (r, tt)
zip_more R [] (b ∷ ys) x y h r = absurd h
zip_more R (a ∷ xs) [] x y h r = absurd h
zip_more R (a ∷ xs) (b ∷ ys) x y h r = (h.0, zip_more R xs ys x y h.1 r)

zip_one : {X Y : Type 0} (R : X → Y → Type 0) → ((x : X) (y z : Y) → R x y → R x z → y ≡ z) → (xs : List X) (ys zs : List Y) → AllZip R xs ys → AllZip R xs zs → ys ≡ zs
zip_one R one [] [] [] h k = refl
zip_one R one [] [] (c ∷ zs) h k = absurd k
zip_one R one [] (b ∷ ys) zs h k = absurd h
zip_one R one (a ∷ xs) [] zs h k = absurd h
zip_one R one (a ∷ xs) (b ∷ ys) [] h k = absurd k
zip_one R one (a ∷ xs) (b ∷ ys) (c ∷ zs) h k = λ i. one a b c h.0 k.0 i ∷ zip_one R one xs ys zs h.1 k.1 i

-- what holds of what follows a value that is there
pub followed : {A B : Type 0} (P : B → Type 0) (o : Option A) (next : A → Option B) → ((x : A) → o ≡ Some x → IfSome (next x) P) → IfSome (option_and_then next o) P
followed P None next holds = tt
followed P (Some x) next holds = holds x refl

-- a choice that gives something
pub told : {A : Type 0} (b : Bool) (x y : A) → (if b then Some x else None) ≡ Some y → (b ≡ true) × (x ≡ y)
told true x y is = (refl, same_Some x y is)
told false x y is = cc

pub told_other : {A : Type 0} (b : Bool) (x y : A) → (if b then None else Some x) ≡ Some y → (b ≡ false) × (x ≡ y)
told_other true x y is = cc
told_other false x y is = (refl, same_Some x y is)

pub in_range_ok : (r : Result ℤ MilliFault) (x : ℤ) → in_range r ≡ Some x → r ≡ Ok x
in_range_ok (Ok y) x is = ap Ok (same_Some y x is)
in_range_ok (Err fault) x is = cc

-- a fact of what is read, from another
pub ok_more : {A : Type 0} (r : Result A DiagramFault) (P Q : A → Type 0) → IfOk r P → ((x : A) → P x → Q x) → IfOk r Q
ok_more (Ok x) P Q holds more = more x holds
ok_more (Err fault) P Q holds more = tt

pub not_below : (a b : ℤ) → int_lt a b ≡ false → b ≤ℤ a
not_below a b h = omega (arith, ints, h)

-- ---- pins

within : (n : Node) (value : Content) (p : Pin) → IsPinOf value p → IfSome (within_box n p) (IsPinOf value)
within n value p is = elim (tested (is_outside n.half_w n.half_h p)) as (λ _. IfSome (within_box n p) (IsPinOf value)) [ yes h ↦ rw h tt | no h ↦ rw h is ]

pin_is : (n : Node) (value : Content) → IfSome (pin_of n value) (IsPinOf value)
pin_is n value =
    followed _ (as_list value) _ (λ pairs a.
    followed _ (option_and_then class_of (value_at (codes "class") pairs)) _ (λ class b.
    followed _ (added_class class) _ (λ added c.
    followed _ (exact_at (codes "x") pairs) _ (λ dx d.
    followed _ (exact_at (codes "y") pairs) _ (λ dy e.
    followed _ (dirs_in (value_at (codes "dirs") pairs)) _ (λ dirs f.
    followed _ (cost_in (value_at (codes "cost") pairs)) _ (λ cost g.
    let p : Pin = record { class = added; dx = dx; dy = dy; dirs = dirs; cost = cost } in
    within n value p (record { pairs = pairs; is_list = a; class = b ∙ ap Some (told_other (class == 0) class added c).1; dx = d; dy = e; dirs = f; cost = g }))))))))

-- a node with its first pins
record HasPins (bare : Node) (seen : List Content) (n : Node) : Type 0 where
  same : n ≡ record bare { pins = n.pins }
  pins : AllZip IsPinOf seen n.pins

pins_more : (place before : ℕ) (bare : Node) (seen : List Content) (n : Node) (value : Content) → HasPins bare seen n → IfOk (with_pin place before n value) (HasPins bare (seen ++ value ∷ []))
pins_more place before bare seen n value has =
    bound _ (refuse (TooMany part.Pin) (nat_le 256 (before + length n.pins))) _ (λ few a.
    bound _ (need (BadPin place) (pin_of n value)) _ (λ pin b.
    record {
      same = ap (λ (m : Node). record m { pins = n.pins ++ pin ∷ [] }) has.same;
      pins = zip_more IsPinOf seen n.pins value pin has.pins (some_holds (pin_of n value) pin (IsPinOf value) (there (BadPin place) (pin_of n value) pin b) (pin_is n value));
    }))

-- ---- nodes

-- a node without its pins
record Boxed (graphics : Pairs) (entry : ListEntry) (id : ℤ) (n : Node) : Type 0 where
  named : n.id ≡ id
  x : exact_at (codes "x") graphics ≡ Some n.x
  y : exact_at (codes "y") graphics ≡ Some n.y
  width : IsHalfOf (value_at (codes "w") graphics) n.half_w
  height : IsHalfOf (value_at (codes "h") graphics) n.half_h
  group : n.group ≡ is_group_mark (number_in (value_at (codes "isGroup") entry.1))
  bare : n.pins ≡ []
  origin : n.origin ≡ Some entry.0

boxed_is : (place : ℕ) (id : ℤ) (entry : ListEntry) (graphics : Pairs) (x y : Content) → value_at (codes "x") graphics ≡ Some x → value_at (codes "y") graphics ≡ Some y
    → IfOk (boxed place id entry (milli_of x) (milli_of y) (size_in (value_at (codes "w") graphics)) (size_in (value_at (codes "h") graphics))) (Boxed graphics entry id)
boxed_is place id entry graphics x y is_x is_y =
    let w = size_in (value_at (codes "w") graphics) in
    let h = size_in (value_at (codes "h") graphics) in
    let far = OutOfRange part.Node place in
    bound _ (refuse (BadNumber part.Node place) (is_no_number (milli_of x) || (is_no_number (milli_of y) || (is_no_number w || is_no_number h)))) _ (λ numbers a.
    bound _ (need far (in_range (milli_of x))) _ (λ on_x b.
    bound _ (need far (in_range (milli_of y))) _ (λ on_y c.
    bound _ (need far (in_range w)) _ (λ wide d.
    bound _ (need far (in_range h)) _ (λ high e.
    bound _ (refuse far (int_lt wide (pos 0) || int_lt high (pos 0))) _ (λ sizes f.
    let signs = or_none (int_lt wide (pos 0)) (int_lt high (pos 0)) (not_refused far (int_lt wide (pos 0) || int_lt high (pos 0)) sizes f) in
    bound _ (refuse far (is_off on_x (half wide) || is_off on_y (half high))) _ (λ corners g.
    record {
      named = refl;
      x = ap (λ o. in_range (number_in o)) is_x ∙ there far (in_range (milli_of x)) on_x b;
      y = ap (λ o. in_range (number_in o)) is_y ∙ there far (in_range (milli_of y)) on_y c;
      width = (wide, in_range_ok w wide (there far (in_range w) wide d), not_below wide (pos 0) signs.0, refl);
      height = (high, in_range_ok h high (there far (in_range h) high e), not_below high (pos 0) signs.1, refl);
      group = refl;
      bare = refl;
      origin = refl;
    })))))))

record Bare (entry : ListEntry) (id : ℤ) (n : Node) : Type 0 where
  graphics : Pairs
  is_list : option_and_then as_list (value_at (codes "graphics") entry.1) ≡ Some graphics
  box : Boxed graphics entry id n

bare_is : (place : ℕ) (id : ℤ) (entry : ListEntry) → IfOk (bare_node place id entry) (Bare entry id)
bare_is place id entry =
    let lists = option_and_then as_list (value_at (codes "graphics") entry.1) in
    bound _ (need (NoPlace place) lists) _ (λ graphics a.
    bound _ (need (NoPlace place) (value_at (codes "x") graphics)) _ (λ x b.
    bound _ (need (NoPlace place) (value_at (codes "y") graphics)) _ (λ y c.
    ok_more (boxed place id entry (milli_of x) (milli_of y) (size_in (value_at (codes "w") graphics)) (size_in (value_at (codes "h") graphics))) (Boxed graphics entry id) (Bare entry id)
    (boxed_is place id entry graphics x y (there (NoPlace place) (value_at (codes "x") graphics) x b) (there (NoPlace place) (value_at (codes "y") graphics) y c))
    (λ n box. record { graphics = graphics; is_list = there (NoPlace place) lists graphics a; box = box }))))

node_of : (entry : ListEntry) (id : ℤ) (n m : Node) → option_and_then id_of (value_at (codes "id") entry.1) ≡ Some id → Bare entry id n → HasPins n (values_at (codes "pin") entry.1) m → IsNodeOf entry m
node_of entry id n m known b has =
    let whole : IsNodeOf entry (record n { pins = m.pins }) = record {
      id = known ∙ ap Some (sym b.box.named);
      graphics = b.graphics;
      is_list = b.is_list;
      x = b.box.x;
      y = b.box.y;
      width = b.box.width;
      height = b.box.height;
      group = b.box.group;
      pins = has.pins;
      origin = b.box.origin;
    } in
    subst (IsNodeOf entry) (sym has.same) whole

node_is : (s : Scene) (entry : ListEntry) → IfOk (node_in s entry) (IsNodeOf entry)
node_is s entry =
    let place = suc (length s.nodes) in
    let ids = option_and_then id_of (value_at (codes "id") entry.1) in
    let pins = values_at (codes "pin") entry.1 in
    bound _ (refuse (TooMany part.Node) (nat_le 256 (length s.nodes))) _ (λ few a.
    bound _ (need (BadId place) ids) _ (λ id b.
    bound _ (refuse (SameId place) (is_some (node_with s id))) _ (λ new c.
    bound _ (bare_node place id entry) _ (λ n d.
    let bare = ok_holds (bare_node place id entry) n (Bare entry id) d (bare_is place id entry) in
    let empty : HasPins n [] n = record { same = refl; pins = subst (λ (ps : List Pin). AllZip IsPinOf [] ps) (sym bare.box.bare) tt } in
    ok_more (each (with_pin place (pin_count s)) n pins) (HasPins n pins) (IsNodeOf entry)
    (collected (HasPins n) (with_pin place (pin_count s)) (pins_more place (pin_count s) n) [] n pins empty)
    (λ m has. node_of entry id n m (there (BadId place) ids id b) bare has)))))

-- a scene with its first nodes
record HasNodes (set : Scene) (seen : List ListEntry) (s : Scene) : Type 0 where
  same : s ≡ record set { nodes = s.nodes }
  nodes : AllZip IsNodeOf seen s.nodes

nodes_more : (set : Scene) (seen : List ListEntry) (s : Scene) (entry : ListEntry) → HasNodes set seen s → IfOk (with_node_in s entry) (HasNodes set (seen ++ entry ∷ []))
nodes_more set seen s entry has =
    bound _ (node_in s entry) _ (λ n a.
    record {
      same = ap (λ (t : Scene). record t { nodes = s.nodes ++ n ∷ [] }) has.same;
      nodes = zip_more IsNodeOf seen s.nodes entry n has.nodes (ok_holds (node_in s entry) n (IsNodeOf entry) a (node_is s entry));
    })

-- ---- edges

pub end_at : (s : Scene) (o : Option ℤ) (n : Node) → option_and_then (node_with s) o ≡ Some n → (o ≡ Some n.id) × (node_with s n.id ≡ Some n)
end_at s None n is = cc
end_at s (Some id) n is =
    let same : n.id ≡ id = (Decides-int_eq n.id id).0 (found_passes (λ (m : Node). int_eq m.id id) s.nodes n is) in
    (ap Some (sym same), ap (node_with s) same ∙ is)

end_is : (s : Scene) (value : Option Content) (n : Node) → end_node s value ≡ Some n → IsEnd s.nodes value n.id
end_is s value n is = let e = end_at s (option_and_then id_of value) n is in record { given = e.0; known = ap is_some e.1 }

own_at : (n : Node) (o : Option ℕ) (c : ℕ) → option_and_then (own_class n) o ≡ Some c → (o ≡ Some c) × (has_class n c ≡ true)
own_at n None c is = cc
own_at n (Some d) c is = let t = told (has_class n d) d c is in (ap Some t.1, subst (λ (k : ℕ). has_class n k ≡ true) t.1 t.0)

pub class_is : (n : Node) (value : Option Content) (c : ℕ) → class_in n value ≡ Some c → (class_at value ≡ Some c) × (has_class n c ≡ true)
class_is n None c is = (is, subst (λ (k : ℕ). has_class n k ≡ true) (same_Some 0 c is) refl)
class_is n (Some value) c is = own_at n (class_of value) c is

via_more : (place before : ℕ) (seen : List Content) (points : List Point) (value : Content) → AllZip IsVia seen points → IfOk (with_via place before points value) (AllZip IsVia (seen ++ value ∷ []))
via_more place before seen points value has =
    bound _ (refuse (TooMany part.Via) (nat_le 4 (length points) || nat_le 256 (before + length points))) _ (λ few a.
    bound _ (need (BadVia place) (checkpoint_of value)) _ (λ point b. zip_more IsVia seen points value point has (there (BadVia place) (checkpoint_of value) point b)))

connector_is : (nodes : List Node) (place before : ℕ) (from to : Node) (entry : ListEntry) → IsEnd nodes (value_at (codes "source") entry.1) from.id → IsEnd nodes (value_at (codes "target") entry.1) to.id
    → (from.id ≡ to.id → ⊥) → IfOk (connector_in place before from to entry) (IsEdgeOf nodes place entry)
connector_is nodes place before from to entry source target other =
    let from_value = value_at (codes "sourcePin") entry.1 in
    let to_value = value_at (codes "targetPin") entry.1 in
    let vias = values_at (codes "via") entry.1 in
    let weights = weight_in (value_at (codes "nudgeWeight") entry.1) in
    bound _ (need (BadEnd place) (class_in from from_value)) _ (λ from_class a.
    bound _ (need (BadEnd place) (class_in to to_value)) _ (λ to_class b.
    bound _ (each (with_via place before) [] vias) _ (λ via c.
    bound _ (need (BadWeight place) weights) _ (λ weight d.
    record {
      numbered = refl;
      from = source;
      to = target;
      loop = λ same. absurd (other same);
      connector = λ differ. record {
        from_class = (class_is from from_value from_class (there (BadEnd place) (class_in from from_value) from_class a)).0;
        to_class = (class_is to to_value to_class (there (BadEnd place) (class_in to to_value) to_class b)).0;
        via = ok_holds (each (with_via place before) [] vias) via (AllZip IsVia vias) c (collected (AllZip IsVia) (with_via place before) (via_more place before) [] [] vias tt);
        weight = there (BadWeight place) weights weight d;
      };
      origin = refl;
    }))))

edge_is : (s : Scene) (entry : ListEntry) → IfOk (edge_in s entry) (IsEdgeOf s.nodes (suc (length s.edges)) entry)
edge_is s entry =
    let place = suc (length s.edges) in
    let source = value_at (codes "source") entry.1 in
    let target = value_at (codes "target") entry.1 in
    bound _ (refuse (TooMany part.Edge) (nat_le 512 (length s.edges))) _ (λ few a.
    bound _ (need (BadEnd place) (end_node s source)) _ (λ from b.
    bound _ (need (BadEnd place) (end_node s target)) _ (λ to c.
    let starts = end_is s source from (there (BadEnd place) (end_node s source) from b) in
    let ends = end_is s target to (there (BadEnd place) (end_node s target) to c) in
    chosen _ (int_eq from.id to.id) (Ok (loop_at place from.id entry.0)) (connector_in place (via_count s) from to entry)
    (λ same. record {
      numbered = refl;
      from = starts;
      to = subst (IsEnd s.nodes target) (sym ((Decides-int_eq from.id to.id).0 same)) ends;
      loop = λ h. record { from_class = refl; to_class = refl; via = refl; weight = refl };
      connector = λ differ. absurd (differ refl);
      origin = refl;
    })
    (λ other. connector_is s.nodes place (via_count s) from to entry starts ends (λ h. false≢true (sym other ∙ (Decides-int_eq from.id to.id).1 h))))))

numbered_more : (nodes : List Node) (number : ℕ) (entries : List ListEntry) (edges : List Edge) (entry : ListEntry) (e : Edge) → AreEdgesOf nodes number entries edges → IsEdgeOf nodes (number + length edges) entry e
    → AreEdgesOf nodes number (entries ++ entry ∷ []) (edges ++ e ∷ [])
numbered_more nodes number [] [] entry e h is = let here : number + 0 ≡ number = omega arith in (subst (λ (n : ℕ). IsEdgeOf nodes n entry e) here is, tt)
numbered_more nodes number [] (d ∷ edges) entry e h is = absurd h
numbered_more nodes number (first ∷ entries) [] entry e h is = absurd h
numbered_more nodes number (first ∷ entries) (d ∷ edges) entry e h is =
    let here : number + suc (length edges) ≡ number + 1 + length edges = omega arith in
    (h.0, numbered_more nodes (number + 1) entries edges entry e h.1 (subst (λ (n : ℕ). IsEdgeOf nodes n entry e) here is))

-- a scene with its first edges
record HasEdges (noded : Scene) (seen : List ListEntry) (s : Scene) : Type 0 where
  nodes : s.nodes ≡ noded.nodes
  settings : s.settings ≡ noded.settings
  edges : AreEdgesOf noded.nodes 1 seen s.edges
  next : s.next_edge ≡ length s.edges + 1

edges_more : (noded : Scene) (seen : List ListEntry) (s : Scene) (entry : ListEntry) → HasEdges noded seen s → IfOk (with_edge_in s entry) (HasEdges noded (seen ++ entry ∷ []))
edges_more noded seen s entry has =
    bound _ (edge_in s entry) _ (λ e a.
    let place = suc (length s.edges) in
    let is = ok_holds (edge_in s entry) e (IsEdgeOf s.nodes place entry) a (edge_is s entry) in
    let there_is = subst (λ (nodes : List Node). IsEdgeOf nodes place entry e) has.nodes is in
    let here : place ≡ 1 + length s.edges = omega arith in
    let numbered = is.numbered in
    record {
      nodes = has.nodes;
      settings = has.settings;
      edges = numbered_more noded.nodes 1 seen s.edges entry e has.edges (subst (λ (n : ℕ). IsEdgeOf noded.nodes n entry e) here there_is);
      next = omega (arith, numbered, length-append s.edges (e ∷ []));
    })

-- ---- settings

abbrev pub setting_of : Setting → Settings → ℤ
setting_of Penalty t = t.penalty
setting_of Buffer t = t.buffer
setting_of Nudge t = t.nudge

record IsChanged (what : Setting) (value : Option Content) (old new : Settings) : Type 0 where
  setting : ℤ
  is : IsSetting value (setting_of what old) setting
  changes : new ≡ with_setting what setting old

pub unchanged : (what : Setting) (t : Settings) → t ≡ with_setting what (setting_of what t) t
unchanged Penalty t = refl
unchanged Buffer t = refl
unchanged Nudge t = refl

value_set : (what : Setting) (s : Scene) (value : Content) (r : Result ℤ MilliFault) → milli_of value ≡ r → IfOk (with_setting_read what s (Some r)) (λ t. IsChanged what (Some value) s.settings t.settings)
value_set what s value (Err milli.NotNumber) is = tt
value_set what s value (Err milli.OutOfRange) is = tt
value_set what s value (Ok v) is =
    chosen _ (out_of_limits what v) (Err (OutOfRange part.Router 0)) (Ok (changed (Set what v) s)) (λ far. tt) (λ near. record { setting = v; is = is; changes = refl })

is_set : (what : Setting) (s : Scene) (value : Option Content) → IfOk (with_setting_read what s (option_map milli_of value)) (λ t. IsChanged what value s.settings t.settings)
is_set what s None = record { setting = setting_of what s.settings; is = refl; changes = unchanged what s.settings }
is_set what s (Some value) = value_set what s value (milli_of value) refl

settings_are : (router : Option Pairs) → IfOk (with_settings_in router empty_scene) (λ s. AreSettingsOf router s.settings)
settings_are None = record { penalty = refl; buffer = refl; nudge = refl }
settings_are (Some router) =
    bound _ (with_setting_at Penalty (codes "penalty") router empty_scene) _ (λ first a.
    bound _ (with_setting_at Buffer (codes "buffer") router first) _ (λ second b.
    let one = ok_holds (with_setting_at Penalty (codes "penalty") router empty_scene) first (λ t. IsChanged Penalty (value_at (codes "penalty") router) default_settings t.settings) a (is_set Penalty empty_scene (value_at (codes "penalty") router)) in
    let two = ok_holds (with_setting_at Buffer (codes "buffer") router first) second (λ t. IsChanged Buffer (value_at (codes "buffer") router) first.settings t.settings) b (is_set Buffer first (value_at (codes "buffer") router)) in
    ok_more (with_setting_at Nudge (codes "nudge") router second) (λ t. IsChanged Nudge (value_at (codes "nudge") router) second.settings t.settings) (λ t. AreSettingsOf (Some router) t.settings) (is_set Nudge second (value_at (codes "nudge") router))
    (λ t three.
    let after : second.settings ≡ with_setting Buffer two.setting (with_setting Penalty one.setting default_settings) = two.changes ∙ ap (with_setting Buffer two.setting) one.changes in
    let whole : t.settings ≡ with_setting Nudge three.setting (with_setting Buffer two.setting (with_setting Penalty one.setting default_settings)) = three.changes ∙ ap (with_setting Nudge three.setting) after in
    subst (AreSettingsOf (Some router)) (sym whole) (record {
      penalty = one.is;
      buffer = subst (λ (old : Settings). IsSetting (value_at (codes "buffer") router) old.buffer two.setting) one.changes two.is;
      nudge = subst (λ (old : Settings). IsSetting (value_at (codes "nudge") router) old.nudge three.setting) after three.is;
    }))))

-- ---- the scene

pub scene_is : (tree : Pairs) → IfOk (scene_of tree) (IsSceneOf tree)
scene_is tree =
    bound _ (need NoGraph (list_at (codes "graph") tree)) _ (λ graph a.
    let router = list_at (codes "router") graph in
    let nodes = entries_from 0 (codes "node") graph in
    let edges = entries_from 0 (codes "edge") graph in
    bound _ (with_settings_in router empty_scene) _ (λ set b.
    bound _ (with_nodes_in set nodes) _ (λ noded c.
    let settings = ok_holds (with_settings_in router empty_scene) set (λ s. AreSettingsOf router s.settings) b (settings_are router) in
    let lists = still_empty router empty_scene set refl b in
    let none : HasNodes set [] set = record { same = refl; nodes = subst (λ (ns : List Node). AllZip IsNodeOf [] ns) (sym lists.nodes) tt } in
    let has = ok_holds (with_nodes_in set nodes) noded (HasNodes set nodes) c (collected (HasNodes set) with_node_in (nodes_more set) [] set nodes none) in
    let no_edges : noded.edges ≡ [] = ap (λ (s : Scene). s.edges) has.same ∙ lists.edges in
    let first : noded.next_edge ≡ 1 = ap (λ (s : Scene). s.next_edge) has.same ∙ lists.next in
    let begins : HasEdges noded [] noded = record {
      nodes = refl;
      settings = refl;
      edges = subst (λ (es : List Edge). AreEdgesOf noded.nodes 1 [] es) (sym no_edges) tt;
      next = first ∙ sym (ap (λ (es : List Edge). length es + 1) no_edges);
    } in
    ok_more (with_edges_in noded edges) (HasEdges noded edges) (IsSceneOf tree) (collected (HasEdges noded) with_edge_in (edges_more noded) [] noded edges begins)
    (λ s holds. record {
      graph = graph;
      is_graph = there NoGraph (list_at (codes "graph") tree) graph a;
      settings = subst (AreSettingsOf router) (sym (holds.settings ∙ ap (λ (t : Scene). t.settings) has.same)) settings;
      nodes = subst (λ (ns : List Node). AllZip IsNodeOf nodes ns) (sym holds.nodes) has.nodes;
      edges = subst (λ (ns : List Node). AreEdgesOf ns 1 edges s.edges) (sym holds.nodes) holds.edges;
      next_edge = holds.next;
    }))))

-- ---- one scene

same_Ok : (x y : ℤ) (r : Result ℤ MilliFault) → r ≡ Ok x → r ≡ Ok y → x ≡ y
same_Ok x y r is other = cc

-- two values of one choice
same : {A : Type 0} (o : Option A) (x y : A) → o ≡ Some x → o ≡ Some y → x ≡ y
same o x y is other = same_Some x y (sym is ∙ other)

same_at : {A B : Type 0} (f : A → Option B) (a b : A) (x y : B) → a ≡ b → f a ≡ Some x → f b ≡ Some y → x ≡ y
same_at f a b x y one is other = same_Some x y (sym is ∙ ap f one ∙ other)

one_setting : (value : Option Content) (default a b : ℤ) → IsSetting value default a → IsSetting value default b → a ≡ b
one_setting None default a b h k = h ∙ sym k
one_setting (Some value) default a b h k = same_Ok a b (milli_of value) h k

one_settings : (router : Option Pairs) (t u : Settings) → AreSettingsOf router t → AreSettingsOf router u → t ≡ u
one_settings router t u h k =
    let penalty = one_setting (option_and_then (value_at (codes "penalty")) router) default_settings.penalty t.penalty u.penalty h.penalty k.penalty in
    let buffer = one_setting (option_and_then (value_at (codes "buffer")) router) default_settings.buffer t.buffer u.buffer h.buffer k.buffer in
    let nudge = one_setting (option_and_then (value_at (codes "nudge")) router) default_settings.nudge t.nudge u.nudge h.nudge k.nudge in
    λ i. record { penalty = penalty i; buffer = buffer i; nudge = nudge i }

one_pin : (value : Content) (p q : Pin) → IsPinOf value p → IsPinOf value q → p ≡ q
one_pin value p q h k =
    let pairs : h.pairs ≡ k.pairs = same (as_list value) h.pairs k.pairs h.is_list k.is_list in
    let class = same_at (λ ps. option_and_then class_of (value_at (codes "class") ps)) h.pairs k.pairs p.class q.class pairs h.class k.class in
    let dx = same_at (exact_at (codes "x")) h.pairs k.pairs p.dx q.dx pairs h.dx k.dx in
    let dy = same_at (exact_at (codes "y")) h.pairs k.pairs p.dy q.dy pairs h.dy k.dy in
    let dirs = same_at (λ ps. dirs_in (value_at (codes "dirs") ps)) h.pairs k.pairs p.dirs q.dirs pairs h.dirs k.dirs in
    let cost = same_at (λ ps. cost_in (value_at (codes "cost") ps)) h.pairs k.pairs p.cost q.cost pairs h.cost k.cost in
    λ i. record { class = class i; dx = dx i; dy = dy i; dirs = dirs i; cost = cost i }

one_half : (a b : Option Content) (x y : ℤ) → a ≡ b → IsHalfOf a x → IsHalfOf b y → x ≡ y
one_half a b x y one h k =
    let size : h.0 ≡ k.0 = same_Ok h.0 k.0 (size_in b) (ap size_in (sym one) ∙ h.1) k.1 in
    h.3 ∙ ap half size ∙ sym k.3

one_node : (entry : ListEntry) (n m : Node) → IsNodeOf entry n → IsNodeOf entry m → n ≡ m
one_node entry n m h k =
    let lists = option_and_then as_list (value_at (codes "graphics") entry.1) in
    let graphics : h.graphics ≡ k.graphics = same lists h.graphics k.graphics h.is_list k.is_list in
    let id = same (option_and_then id_of (value_at (codes "id") entry.1)) n.id m.id h.id k.id in
    let x = same_at (exact_at (codes "x")) h.graphics k.graphics n.x m.x graphics h.x k.x in
    let y = same_at (exact_at (codes "y")) h.graphics k.graphics n.y m.y graphics h.y k.y in
    let half_w = one_half (value_at (codes "w") h.graphics) (value_at (codes "w") k.graphics) n.half_w m.half_w (ap (value_at (codes "w")) graphics) h.width k.width in
    let half_h = one_half (value_at (codes "h") h.graphics) (value_at (codes "h") k.graphics) n.half_h m.half_h (ap (value_at (codes "h")) graphics) h.height k.height in
    let group : n.group ≡ m.group = h.group ∙ sym k.group in
    let pins = zip_one IsPinOf one_pin (values_at (codes "pin") entry.1) n.pins m.pins h.pins k.pins in
    let origin : n.origin ≡ m.origin = h.origin ∙ sym k.origin in
    λ i. record { id = id i; x = x i; y = y i; half_w = half_w i; half_h = half_h i; group = group i; pins = pins i; origin = origin i }

-- what two edges have besides their ends, their numbers and their places
record AreAlike (d e : Edge) : Type 0 where
  from_class : d.from_class ≡ e.from_class
  to_class : d.to_class ≡ e.to_class
  via : d.via ≡ e.via
  weight : d.weight ≡ e.weight

one_connector : (pairs : Pairs) (d e : Edge) → IsConnectorOf pairs d → IsConnectorOf pairs e → AreAlike d e
one_connector pairs d e h k = record {
  from_class = same (class_at (value_at (codes "sourcePin") pairs)) d.from_class e.from_class h.from_class k.from_class;
  to_class = same (class_at (value_at (codes "targetPin") pairs)) d.to_class e.to_class h.to_class k.to_class;
  via = zip_one IsVia (λ value a b one other. same (checkpoint_of value) a b one other) (values_at (codes "via") pairs) d.via e.via h.via k.via;
  weight = same (weight_in (value_at (codes "nudgeWeight") pairs)) d.weight e.weight h.weight k.weight;
}

one_loop : (d e : Edge) → IsPlain d → IsPlain e → AreAlike d e
one_loop d e h k = record { from_class = h.from_class ∙ sym k.from_class; to_class = h.to_class ∙ sym k.to_class; via = h.via ∙ sym k.via; weight = h.weight ∙ sym k.weight }

one_edge : (nodes : List Node) (number : ℕ) (entry : ListEntry) (d e : Edge) → IsEdgeOf nodes number entry d → IsEdgeOf nodes number entry e → d ≡ e
one_edge nodes number entry d e h k =
    let numbers : d.number ≡ e.number = h.numbered ∙ sym k.numbered in
    let from : d.from ≡ e.from = same (option_and_then id_of (value_at (codes "source") entry.1)) d.from e.from h.from.given k.from.given in
    let to : d.to ≡ e.to = same (option_and_then id_of (value_at (codes "target") entry.1)) d.to e.to h.to.given k.to.given in
    let origin : d.origin ≡ e.origin = h.origin ∙ sym k.origin in
    let alike : AreAlike d e = elim (tested (int_eq d.from d.to)) [
      | yes h_loop ↦
          let loop : d.from ≡ d.to = (Decides-int_eq d.from d.to).0 h_loop in
          one_loop d e (h.loop loop) (k.loop (sym from ∙ loop ∙ to))
      | no h_other ↦
          let other : d.from ≡ d.to → ⊥ = λ l. false≢true (sym h_other ∙ (Decides-int_eq d.from d.to).1 l) in
          one_connector entry.1 d e (h.connector other) (k.connector (λ l. other (from ∙ l ∙ sym to)))
    ] in
    let from_class = alike.from_class in
    let to_class = alike.to_class in
    let via = alike.via in
    let weight = alike.weight in
    λ i. record { number = numbers i; from = from i; to = to i; from_class = from_class i; to_class = to_class i; via = via i; origin = origin i; weight = weight i }

one_list : (nodes : List Node) (number : ℕ) (entries : List ListEntry) (ds es : List Edge) → AreEdgesOf nodes number entries ds → AreEdgesOf nodes number entries es → ds ≡ es
one_list nodes number [] [] [] h k = refl
one_list nodes number [] [] (e ∷ es) h k = absurd k
one_list nodes number [] (d ∷ ds) es h k = absurd h
one_list nodes number (entry ∷ entries) [] es h k = absurd h
one_list nodes number (entry ∷ entries) (d ∷ ds) [] h k = absurd k
one_list nodes number (entry ∷ entries) (d ∷ ds) (e ∷ es) h k = λ i. one_edge nodes number entry d e h.0 k.0 i ∷ one_list nodes (number + 1) entries ds es h.1 k.1 i

pub one_scene : (tree : Pairs) (s other : Scene) → IsSceneOf tree s → IsSceneOf tree other → s ≡ other
one_scene tree s other h k =
    let graph : k.graph ≡ h.graph = same (list_at (codes "graph") tree) k.graph h.graph k.is_graph h.is_graph in
    let router = list_at (codes "router") h.graph in
    let entries = entries_from 0 (codes "edge") h.graph in
    let settings = one_settings router s.settings other.settings h.settings (subst (λ (g : Pairs). AreSettingsOf (list_at (codes "router") g) other.settings) graph k.settings) in
    let nodes = zip_one IsNodeOf one_node (entries_from 0 (codes "node") h.graph) s.nodes other.nodes h.nodes (subst (λ (g : Pairs). AllZip IsNodeOf (entries_from 0 (codes "node") g) other.nodes) graph k.nodes) in
    let on_nodes = subst (λ (ns : List Node). AreEdgesOf ns 1 entries s.edges) nodes h.edges in
    let edges = one_list other.nodes 1 entries s.edges other.edges on_nodes (subst (λ (g : Pairs). AreEdgesOf other.nodes 1 (entries_from 0 (codes "edge") g) other.edges) graph k.edges) in
    let next : s.next_edge ≡ other.next_edge = h.next_edge ∙ ap (λ (es : List Edge). length es + 1) edges ∙ sym k.next_edge in
    λ i. record { nodes = nodes i; edges = edges i; settings = settings i; next_edge = next i }
