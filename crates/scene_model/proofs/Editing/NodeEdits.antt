-- Edits of nodes keep a scene valid.
use Rattle.std.proofs.Common.{◌≡◌, ◌≢◌, ◌⊎◌, inl, inr, ℕ, suc, zero, ◌+◌, ◌-◌, ◌^◌, ◌<◌, ◌≤◌, Bool, true, false, not, ◌||◌, ◌&&◌, Option, None, Some, List, [], ◌∷◌, ◌++◌, length, take, drop, refl, sym, subst, ◌∙◌, arith, int_eq, ltb-false, leb-false, true≢false}
use Rattle.std.specs.Prelude.{ℤ, pos, ◌≤ℤ◌, unsigned_abs, option_map, option_and_then, if◌then◌else◌, IsTrue, IsSomeAnd, All, AllPairs, find, position, remove, slice_get, ◌==◌, nat_lt}
use Rattle.std.specs.List.{AllByRecursion as Each, list_any}
use Rattle.std.proofs.lemmas.Bool.{eqb-true, eq-eqb, eqb-false, and_from}
use Rattle.std.proofs.lemmas.Int.{ints}
use Rattle.std.proofs.lemmas.Bool.Decides.{Decides-int_eq}
use Rattle.std.proofs.lemmas.List.{length_push}
use Rattle.std.proofs.lemmas.List.Edits.{length-remove}
use Rattle.std.proofs.lemmas.List.Elements.{All-from_recursion, recursion_from_All, All-take, All-drop, All-append, All-push, All-weaker, All-nil, All-filter}
use Rattle.std.proofs.lemmas.List.Sums.{sum_by_push}
use Rattle.std.proofs.lemmas.List.Filters.{length-filter_both, sum_by-filter_both}
use Rattle.scene_model.specs.declared.node.Node.{Node}
use Rattle.scene_model.specs.declared.edge.Edge.{Edge}
use Rattle.scene_model.specs.declared.pin.Pin.{Pin}
use Rattle.scene_model.specs.declared.pin.Dirs.{Dirs}
use Rattle.scene_model.specs.declared.edit.Edit.TheVariants.{AddNode, MoveNode, SizeNode, DropNode, AddPin, DropPin}
use Rattle.scene_model.specs.declared.fault.SceneFault.TheVariants.{OutOfRange, PinOutside, NoSuchPlace, PinInUse, NodeInUse}
use Rattle.scene_model.specs.Scene.{Scene, node_with, has_class, pin_count}
use Rattle.scene_model.specs.Valid.{IsNode, IsEdge, IsValid, IsPin, HasDirection}
use Rattle.scene_model.specs.Edits.{refusal, refusals, changed, when, is_off, half, is_outside, is_no_place, in_use, uses, touches, new_pin, new_node}
use Rattle.scene_model.proofs.Editing.Entries.{found_has, key_found, none_passes, each_weaker, pairs_to, pairs_from, pairs_push, pairs_filter, found_before, keyless, without, find_without, each_both, twice_not}
use Rattle.scene_model.proofs.Editing.Refusals.{all_none, when_none, none_of, known_node, said_at, map_none, or_none, place_within, none_at, any_more, any_left}
use Rattle.scene_model.proofs.Editing.Nodes.{id_of, Serves, has_at, IsServed, served_on, node_changed, edge_stands}

pub node_found : (s : Scene) (id : ℤ) (n : Node) → IsValid s → node_with s id ≡ Some n → IsNode n
node_found s id n v known = found_has (λ m. int_eq m.id id) IsNode s.nodes n known (recursion_from_All IsNode s.nodes v.nodes)

-- the classes are as before
same_classes : (s : Scene) (id : ℤ) (n m : Node) → IsValid s → node_with s id ≡ Some n → ((class : ℕ) → IsTrue (has_class n class) → IsTrue (has_class m class)) → Each (IsServed id m) s.edges
same_classes s id n m v known more =
    each_weaker (IsEdge s) (IsServed id m) (served_on s id n m known more) s.edges (recursion_from_All (IsEdge s) s.edges v.edges)

pub within_field : (x h : ℤ) → is_off x h ≡ false → unsigned_abs x + unsigned_abs h ≤ 10 ^ 9
within_field x h e = ltb-false (10 ^ 9) (unsigned_abs x + unsigned_abs h) e

pub move_node : (s : Scene) (id x y : ℤ) → IsValid s → refusal (MoveNode id x y) s ≡ None → IsValid (changed (MoveNode id x y) s)
move_node s id x y v free =
    let r = all_none (refusals (MoveNode id x y) s) free in
    let k = known_node s id r.0 in
    let n = k.0 in
    let was = node_found s id n v k.1 in
    let off_x = when_none _ _ (said_at (node_with s id) n (λ m. when (is_off x m.half_w) (OutOfRange 3)) k.1 r.1.0) in
    let off_y = when_none _ _ (said_at (node_with s id) n (λ m. when (is_off y m.half_h) (OutOfRange 4)) k.1 r.1.1.0) in
    node_changed s id (λ m. record m { x = x; y = y }) n v (record {
      known = k.1;
      keeps = λ m. refl;
      node = record {
        half_w = was.half_w;
        half_h = was.half_h;
        x = within_field x n.half_w off_x;
        y = within_field y n.half_h off_y;
        pins = was.pins;
      };
      serves = same_classes s id n (record n { x = x; y = y }) v k.1 (λ class h. h);
      pins = omega (arith, v.few_pins);
    })

pub inside : (half_w half_h : ℤ) (p : Pin) → is_outside half_w half_h p ≡ false → (unsigned_abs p.dx ≤ unsigned_abs half_w) × (unsigned_abs p.dy ≤ unsigned_abs half_h)
inside half_w half_h p h =
    let c = or_none (nat_lt (unsigned_abs half_w) (unsigned_abs p.dx)) (nat_lt (unsigned_abs half_h) (unsigned_abs p.dy)) h in
    (ltb-false (unsigned_abs half_w) (unsigned_abs p.dx) c.0, ltb-false (unsigned_abs half_h) (unsigned_abs p.dy) c.1)

resized : (w h half_w half_h : ℤ) (p : Pin) → IsPin w h p × (is_outside half_w half_h p ≡ false) → IsPin half_w half_h p
resized w h half_w half_h p e =
    let i = inside half_w half_h p e.1 in
    record { some_class = e.0.some_class; low_class = e.0.low_class; direction = e.0.direction; x = i.0; y = i.1; cost = e.0.cost; low_cost = e.0.low_cost }

half_sign : (size : ℤ) → pos 0 ≤ℤ half size
half_sign size = omega (arith, ints)

pub size_node : (s : Scene) (id w h : ℤ) → IsValid s → refusal (SizeNode id w h) s ≡ None → IsValid (changed (SizeNode id w h) s)
size_node s id w h v free =
    let r = all_none (refusals (SizeNode id w h) s) free in
    let k = known_node s id r.0 in
    let n = k.0 in
    let was = node_found s id n v k.1 in
    let off_x = when_none _ _ (said_at (node_with s id) n (λ m. when (is_off m.x (half w)) (OutOfRange 3)) k.1 r.1.1.0) in
    let off_y = when_none _ _ (said_at (node_with s id) n (λ m. when (is_off m.y (half h)) (OutOfRange 4)) k.1 r.1.1.1.1.0) in
    let fits = none_at (is_outside (half w) (half h)) n.pins
    (map_none (λ j. PinOutside (suc j)) (position (is_outside (half w) (half h)) n.pins)
    (said_at (node_with s id) n (λ m. option_map (λ j. PinOutside (suc j)) (position (is_outside (half w) (half h)) m.pins)) k.1 r.1.1.1.1.1.0)) in
    node_changed s id (λ m. record m { half_w = half w; half_h = half h }) n v (record {
      known = k.1;
      keeps = λ m. refl;
      node = record {
        half_w = half_sign w;
        half_h = half_sign h;
        x = within_field n.x (half w) off_x;
        y = within_field n.y (half h) off_y;
        pins = All-from_recursion (IsPin (half w) (half h)) n.pins
            (each_weaker (λ p. IsPin n.half_w n.half_h p × (is_outside (half w) (half h) p ≡ false)) (IsPin (half w) (half h)) (resized n.half_w n.half_h (half w) (half h)) n.pins
            (each_both (IsPin n.half_w n.half_h) (λ p. is_outside (half w) (half h) p ≡ false) n.pins (recursion_from_All (IsPin n.half_w n.half_h) n.pins was.pins) fits));
      };
      serves = same_classes s id n (record n { half_w = half w; half_h = half h }) v k.1 (λ class h. h);
      pins = omega (arith, v.few_pins);
    })

any_of : (b c d : Bool) → (c ≡ true → d ≡ true) → (b || c) ≡ true → (b || d) ≡ true
any_of true c d more h = refl
any_of false c d more h = more h

-- the pin has a direction where its edit has one
pub add_pin : (s : Scene) (id : ℤ) (class : ℕ) (dx dy : ℤ) (dirs : Dirs) → HasDirection dirs → IsValid s → refusal (AddPin id class dx dy dirs) s ≡ None → IsValid (changed (AddPin id class dx dy dirs) s)
add_pin s id class dx dy dirs directed v free =
    let p : Pin = new_pin class dx dy dirs in
    let r = all_none (refusals (AddPin id class dx dy dirs) s) free in
    let k = known_node s id r.0 in
    let n = k.0 in
    let was = node_found s id n v k.1 in
    let c = or_none (class == 0) (nat_lt 65535 class) (when_none _ _ r.1.0) in
    let some_class = eqb-false class 0 c.0 in
    let low_class = ltb-false 65535 class c.1 in
    let room = leb-false 256 (pin_count s) (when_none _ _ r.1.1.0) in
    let i = inside n.half_w n.half_h p (when_none _ _ (said_at (node_with s id) n (λ m. when (is_outside m.half_w m.half_h p) (PinOutside (suc (length m.pins)))) k.1 r.1.1.1.0)) in
    let pin : IsPin n.half_w n.half_h p = record {
      some_class = omega (arith, some_class);
      low_class = low_class;
      direction = directed;
      x = i.0;
      y = i.1;
      cost = omega (arith, ints);
      low_cost = omega (arith, ints);
    } in
    node_changed s id (λ m. record m { pins = m.pins ++ p ∷ [] }) n v (record {
      known = k.1;
      keeps = λ m. refl;
      node = record {
        half_w = was.half_w;
        half_h = was.half_h;
        x = was.x;
        y = was.y;
        pins = All-push (IsPin n.half_w n.half_h) n.pins p was.pins pin;
      };
      serves = same_classes s id n (record n { pins = n.pins ++ p ∷ [] }) v k.1
          (λ other h. any_of (other == 0) (list_any (λ q. q.class == other) n.pins) (list_any (λ q. q.class == other) (n.pins ++ p ∷ [])) (any_more (λ q. q.class == other) n.pins (p ∷ [])) h);
      pins = let l = length_push n.pins p in omega (arith, room, l);
    })

all_removed : {X : Type 0} (P : X → Type 0) (xs : List X) (k : ℕ) → All P xs → All P (remove xs k)
all_removed P xs k h = All-append P (take k xs) (drop (suc k) xs) (All-take P k xs h) (All-drop P (suc k) xs h)

-- an edge that uses a class of the node is found among those that use it
uses_from : (id : ℤ) (class : ℕ) (e : Edge) → uses id class e ≡ false → e.from ≡ id → e.from_class ≡ class → ⊥
uses_from id class e h at same =
    let c = or_none (int_eq e.from id && e.from_class == class) (int_eq e.to id && e.to_class == class) h in
    true≢false (sym (and_from (int_eq e.from id) (e.from_class == class) ((Decides-int_eq e.from id).1 at) (eq-eqb e.from_class class same)) ∙ c.0)

uses_to : (id : ℤ) (class : ℕ) (e : Edge) → uses id class e ≡ false → e.to ≡ id → e.to_class ≡ class → ⊥
uses_to id class e h at same =
    let c = or_none (int_eq e.from id && e.from_class == class) (int_eq e.to id && e.to_class == class) h in
    true≢false (sym (and_from (int_eq e.to id) (e.to_class == class) ((Decides-int_eq e.to id).1 at) (eq-eqb e.to_class class same)) ∙ c.1)

-- either another pin has the class of the pin, or no edge uses it
class_stays : (b : Bool) (number : Edge → ℕ) (o : Option Edge) → (if b then None else option_map (λ e. PinInUse (number e)) o) ≡ None → (b ≡ true) ⊎ (o ≡ None)
class_stays true number o h = inl refl
class_stays false number o h = inr (map_none (λ e. PinInUse (number e)) o h)

-- a class that an edge uses is one of the pins that are left
class_left : (n : Node) (k : ℕ) (p : Pin) (class : ℕ) → slice_get n.pins k ≡ Some p
    → ((p.class ≡ class) → list_any (λ q. q.class == class) (remove n.pins k) ≡ true)
    → IsTrue (has_class n class) → IsTrue (has_class (record n { pins = remove n.pins k }) class)
class_left n k p class at other h =
    any_of (class == 0) (list_any (λ q. q.class == class) n.pins) (list_any (λ q. q.class == class) (remove n.pins k))
    (λ any. elim (any_left (λ q. q.class == class) n.pins k p at any) [
      | inl e ↦ e
      | inr e ↦ other (eqb-true p.class class e)
    ]) h

served_left : (s : Scene) (id : ℤ) (n : Node) (k : ℕ) (p : Pin) → node_with s id ≡ Some n → n.id ≡ id → slice_get n.pins k ≡ Some p
    → (list_any (λ q. q.class == p.class) (remove n.pins k) ≡ true) ⊎ (find (uses n.id p.class) s.edges ≡ None)
    → (es : List Edge) → (find (uses n.id p.class) s.edges ≡ None → Each (λ e. uses n.id p.class e ≡ false) es) → Each (IsEdge s) es
    → Each (IsServed id (record n { pins = remove n.pins k })) es
served_left s id n k p known own at stays [] unused valid = tt
served_left s id n k p known own at stays (e ∷ es) unused valid = (
  (
    λ here. class_left n k p e.from_class at
        (λ same. elim stays [
          | inl any ↦ subst (λ c. list_any (λ q. q.class == c) (remove n.pins k) ≡ true) same any
          | inr none ↦ absurd (uses_from n.id p.class e (unused none).0 (here ∙ sym own) (sym same))
        ])
        (has_at (node_with s id) n e.from_class known (subst (λ i. Serves s i e.from_class) here valid.0.from)),
    λ here. class_left n k p e.to_class at
        (λ same. elim stays [
          | inl any ↦ subst (λ c. list_any (λ q. q.class == c) (remove n.pins k) ≡ true) same any
          | inr none ↦ absurd (uses_to n.id p.class e (unused none).0 (here ∙ sym own) (sym same))
        ])
        (has_at (node_with s id) n e.to_class known (subst (λ i. Serves s i e.to_class) here valid.0.to)),
  ),
  served_left s id n k p known own at stays es (λ none. (unused none).1) valid.1,
)

pin_at : {X : Type 0} (xs : List X) (k : ℕ) → k < length xs → (x : X) × (slice_get xs k ≡ Some x)
pin_at [] k l = absurd (omega (arith, l))
pin_at (x ∷ xs) zero l = (x, refl)
pin_at (x ∷ xs) (suc k) l = pin_at xs k (omega (arith, l))

pub drop_pin : (s : Scene) (id : ℤ) (place : ℕ) → IsValid s → refusal (DropPin id place) s ≡ None → IsValid (changed (DropPin id place) s)
drop_pin s id place v free =
    let r = all_none (refusals (DropPin id place) s) free in
    let known = known_node s id r.0 in
    let n = known.0 in
    let was = node_found s id n v known.1 in
    let within = place_within (length n.pins) place (when_none _ _ (said_at (node_with s id) n (λ m. when (is_no_place (length m.pins) place) (NoSuchPlace place)) known.1 r.1.0)) in
    let k : ℕ = place - 1 in
    let low : k < length n.pins = omega (arith, within.0, within.1) in
    let at = pin_at n.pins k low in
    let p = at.0 in
    let left = said_at (slice_get n.pins k) p (in_use s n place) at.1
    (said_at (node_with s id) n (λ m. option_and_then (in_use s m place) (slice_get m.pins (place - 1))) known.1 r.1.1.0) in
    let stays = class_stays (list_any (λ q. q.class == p.class) (remove n.pins k)) (λ e. e.number) (find (uses n.id p.class) s.edges) left in
    node_changed s id (λ m. record m { pins = remove m.pins k }) n v (record {
      known = known.1;
      keeps = λ m. refl;
      node = record {
        half_w = was.half_w;
        half_h = was.half_h;
        x = was.x;
        y = was.y;
        pins = all_removed (IsPin n.half_w n.half_h) n.pins k was.pins;
      };
      serves = served_left s id n k p known.1 (key_found id_of int_eq Decides-int_eq id s.nodes n known.1) at.1 stays s.edges
          (none_passes (uses n.id p.class) s.edges) (recursion_from_All (IsEdge s) s.edges v.edges);
      pins = let l = length-remove n.pins k low in let few = v.few_pins in omega (arith, few, l);
    })

serves_kept_by : (s t : Scene) (i : ℤ) (class : ℕ) (o : Option Node) → node_with s i ≡ o → ((n : Node) → node_with s i ≡ Some n → node_with t i ≡ Some n)
    → IsSomeAnd o (λ n. IsTrue (has_class n class)) → Serves t i class
serves_kept_by s t i class None e kept h = absurd h
serves_kept_by s t i class (Some n) e kept h = subst (λ o. IsSomeAnd o (λ m. IsTrue (has_class m class))) (sym (kept n e)) h

serves_kept : (s t : Scene) (i : ℤ) (class : ℕ) → ((n : Node) → node_with s i ≡ Some n → node_with t i ≡ Some n) → Serves s i class → Serves t i class
serves_kept s t i class kept h = serves_kept_by s t i class (node_with s i) refl kept h

-- other nodes, and the same edges
with_nodes : (s : Scene) (ns : List Node) → IsValid s → AllPairs (λ m n. m.id ≢ n.id) ns → All IsNode ns → length ns ≤ 256 → pin_count (record s { nodes = ns }) ≤ 256
    → All (IsEdge (record s { nodes = ns })) s.edges → IsValid (record s { nodes = ns })
with_nodes s ns v differ nodes few pins edges = record {
  ids_differ = differ;
  nodes = nodes;
  few_nodes = few;
  few_pins = pins;
  numbers_rise = v.numbers_rise;
  below_next = v.below_next;
  edges = edges;
  few_edges = v.few_edges;
  few_via = v.few_via;
  settings = v.settings;
  next = v.next;
}

-- one more node, last
pub node_added : (s : Scene) (n : Node) → IsValid s → node_with s n.id ≡ None → IsNode n → length s.nodes < 256 → pin_count s + length n.pins ≤ 256 → IsValid (record s { nodes = s.nodes ++ n ∷ [] })
node_added s n v fresh node room pins =
    let others = keyless id_of int_eq Decides-int_eq n.id s.nodes fresh in
    let ns : List Node = s.nodes ++ n ∷ [] in
    let t : Scene = record s { nodes = ns } in
    with_nodes s ns v
    (pairs_to (λ m k. m.id ≢ k.id) ns (pairs_push (λ m k. m.id ≢ k.id) s.nodes n (pairs_from (λ m k. m.id ≢ k.id) s.nodes v.ids_differ) others))
    (All-push IsNode s.nodes n v.nodes node)
    (let l = length_push s.nodes n in omega (arith, room, l))
    (let l = sum_by_push (λ m. length m.pins) s.nodes n in omega (arith, pins, l))
    (All-weaker (IsEdge s) (IsEdge t)
    (λ e valid. edge_stands s t e
    (serves_kept s t e.from e.from_class (λ m found. found_before (λ k. int_eq k.id e.from) s.nodes (n ∷ []) m found) valid.from)
    (serves_kept s t e.to e.to_class (λ m found. found_before (λ k. int_eq k.id e.to) s.nodes (n ∷ []) m found) valid.to) valid)
    s.edges v.edges)

pub add_node : (s : Scene) (id x y w h : ℤ) → IsValid s → refusal (AddNode id x y w h) s ≡ None → IsValid (changed (AddNode id x y w h) s)
add_node s id x y w h v free =
    let new : Node = new_node id x y (half w) (half h) in
    let r = all_none (refusals (AddNode id x y w h) s) free in
    node_added s new v (none_of (node_with s id) (when_none _ _ r.0))
    (record {
      half_w = half_sign w;
      half_h = half_sign h;
      x = within_field x (half w) (when_none _ _ r.1.1.1.1.0);
      y = within_field y (half h) (when_none _ _ r.1.1.1.1.1.0);
      pins = All-nil (IsPin (half w) (half h));
    })
    (leb-false 256 (length s.nodes) (when_none _ _ r.1.0))
    (let few = v.few_pins in omega (arith, few))

apart : (id : ℤ) (e : Edge) → touches id e ≡ false → (e.from ≢ id) × (e.to ≢ id)
apart id e h =
    let c = or_none (int_eq e.from id) (int_eq e.to id) h in
    (λ at. true≢false (sym ((Decides-int_eq e.from id).1 at) ∙ c.0), λ at. true≢false (sym ((Decides-int_eq e.to id).1 at) ∙ c.1))

pub drop_node : (s : Scene) (id : ℤ) → IsValid s → refusal (DropNode id) s ≡ None → IsValid (changed (DropNode id) s)
drop_node s id v free =
    let r = all_none (refusals (DropNode id) s) free in
    let unused = none_passes (touches id) s.edges (map_none (λ e. NodeInUse e.number) (find (touches id) s.edges) r.1.0) in
    let ns : List Node = without id_of int_eq Decides-int_eq id s.nodes in
    let t : Scene = record s { nodes = ns } in
    with_nodes s ns v
    (pairs_to (λ m n. m.id ≢ n.id) ns (pairs_filter (λ m n. m.id ≢ n.id) (λ n. not (int_eq n.id id)) s.nodes (pairs_from (λ m n. m.id ≢ n.id) s.nodes v.ids_differ)))
    (All-filter (λ n. not (int_eq n.id id)) IsNode s.nodes v.nodes)
    (let few = v.few_nodes in let l = length-filter_both (λ n. not (int_eq n.id id)) (λ n. int_eq n.id id) (λ n. twice_not (int_eq n.id id)) s.nodes in omega (arith, few, l))
    (let few = v.few_pins in let l = sum_by-filter_both (λ n. not (int_eq n.id id)) (λ n. int_eq n.id id) (λ n. twice_not (int_eq n.id id)) (λ n. length n.pins) s.nodes in omega (arith, few, l))
    (All-from_recursion (IsEdge t) s.edges
    (each_weaker (λ e. IsEdge s e × (touches id e ≡ false)) (IsEdge t)
    (λ e h. edge_stands s t e
    (subst (λ o. IsSomeAnd o (λ n. IsTrue (has_class n e.from_class))) (sym (find_without id_of int_eq Decides-int_eq e.from id (apart id e h.1).0 s.nodes)) h.0.from)
    (subst (λ o. IsSomeAnd o (λ n. IsTrue (has_class n e.to_class))) (sym (find_without id_of int_eq Decides-int_eq e.to id (apart id e h.1).1 s.nodes)) h.0.to) h.0)
    s.edges (each_both (IsEdge s) (λ e. touches id e ≡ false) s.edges (recursion_from_All (IsEdge s) s.edges v.edges) unused)))
