-- A scene with one node changed.
use Rattle.std.proofs.Common.{◌≡◌, ◌≢◌, ℕ, ◌+◌, ◌≤◌, Bool, true, false, Option, None, Some, List, [], ◌∷◌, length, refl, sym, ap, subst, ◌∙◌, arith, int_eq}
use Rattle.std.specs.Prelude.{ℤ, sum_by, option_map, if◌then◌else◌, IsTrue, IsSomeAnd}
use Rattle.std.specs.List.{AllByRecursion as Each}
use Rattle.std.proofs.lemmas.Option.{same_Some}
use Rattle.std.proofs.lemmas.List.{length-map}
use Rattle.std.proofs.lemmas.List.Sums.{sum_by-cons}
use Rattle.std.proofs.lemmas.Bool.Decides.{Decides-int_eq}
use Rattle.std.proofs.lemmas.List.Elements.{All-from_recursion, recursion_from_All}
use Rattle.scene_model.specs.declared.node.Node.{Node}
use Rattle.scene_model.specs.declared.edge.Edge.{Edge}
use Rattle.scene_model.specs.Scene.{Scene, node_with, has_class, pin_count}
use Rattle.scene_model.specs.Valid.{IsNode, IsEdge, IsValid}
use Rattle.scene_model.specs.Edits.{change_node}
use Rattle.scene_model.proofs.Editing.Entries.{pairs_to, pairs_from, each_weaker, Differ, IsOnly, only_found, key_found, find_changed, differ_changed, each_changed, sum_changed, each_both, found_has}

abbrev pub id_of : Node → ℤ
id_of n = n.id

-- an end at this node may use the class
abbrev pub Serves : Scene → ℤ → ℕ → Type 0
Serves s id class = IsSomeAnd (node_with s id) (λ n. IsTrue (has_class n class))

-- an edge stands in another scene whose nodes serve its ends
pub edge_stands : (s t : Scene) (e : Edge) → Serves t e.from e.from_class → Serves t e.to e.to_class → IsEdge s e → IsEdge t e
edge_stands s t e from to h = record { from = from; to = to; loop = h.loop; some_weight = h.some_weight; low_weight = h.low_weight; few_via = h.few_via; via = h.via }

-- whether the edge's ends at the node may use their classes at this one
abbrev pub IsServed : ℤ → Node → Edge → Type 0
IsServed id n e = (e.from ≡ id → IsTrue (has_class n e.from_class)) × (e.to ≡ id → IsTrue (has_class n e.to_class))

pub has_at : (o : Option Node) (n : Node) (class : ℕ) → o ≡ Some n → IsSomeAnd o (λ m. IsTrue (has_class m class)) → IsTrue (has_class n class)
has_at o n class e h = subst (λ z. IsSomeAnd z (λ m. IsTrue (has_class m class))) e h

-- where the new node has the classes of the old one
pub served_on : (s : Scene) (id : ℤ) (n m : Node) → node_with s id ≡ Some n → ((class : ℕ) → IsTrue (has_class n class) → IsTrue (has_class m class))
    → (e : Edge) → IsEdge s e → IsServed id m e
served_on s id n m known more e h = (
  λ at. more e.from_class (has_at (node_with s id) n e.from_class known (subst (λ i. Serves s i e.from_class) at h.from)),
  λ at. more e.to_class (has_at (node_with s id) n e.to_class known (subst (λ i. Serves s i e.to_class) at h.to)),
)

changed_has_by : (s : Scene) (id i : ℤ) (f : Node → Node) (n m : Node) (class : ℕ) (b : Bool) → int_eq m.id id ≡ b → m.id ≡ i → node_with s id ≡ Some n → node_with s i ≡ Some m
    → (i ≡ id → IsTrue (has_class (f n) class)) → IsTrue (has_class m class) → IsTrue (has_class (if b then f m else m) class)
changed_has_by s id i f n m class true e at known found serves h =
    let same : i ≡ id = sym at ∙ (Decides-int_eq m.id id).0 e in
    let one : n ≡ m = same_Some n m (sym known ∙ ap (node_with s) (sym same) ∙ found) in
    subst (λ z. IsTrue (has_class (f z) class)) one (serves same)
changed_has_by s id i f n m class false e at known found serves h = h

serves_by : (s : Scene) (id i : ℤ) (f : Node → Node) (n : Node) (class : ℕ) (o : Option Node) → node_with s i ≡ o → node_with s id ≡ Some n
    → (i ≡ id → IsTrue (has_class (f n) class)) → IsSomeAnd o (λ m. IsTrue (has_class m class))
    → IsSomeAnd (option_map (λ m. if int_eq m.id id then f m else m) o) (λ m. IsTrue (has_class m class))
serves_by s id i f n class None found known serves h = h
serves_by s id i f n class (Some m) found known serves h =
    changed_has_by s id i f n m class (int_eq m.id id) refl (key_found id_of int_eq Decides-int_eq i s.nodes m found) known found serves h

pub serves_changed : (s : Scene) (id i : ℤ) (f : Node → Node) (n : Node) (class : ℕ) → ((m : Node) → (f m).id ≡ m.id) → node_with s id ≡ Some n
    → (i ≡ id → IsTrue (has_class (f n) class)) → Serves s i class → Serves (change_node s id f) i class
serves_changed s id i f n class keeps known serves h =
    subst (λ o. IsSomeAnd o (λ m. IsTrue (has_class m class))) (sym (find_changed id_of int_eq Decides-int_eq id f keeps i s.nodes))
    (serves_by s id i f n class (node_with s i) refl known serves h)

edge_served : (s : Scene) (id : ℤ) (f : Node → Node) (n : Node) → ((m : Node) → (f m).id ≡ m.id) → node_with s id ≡ Some n
    → (e : Edge) → IsServed id (f n) e × IsEdge s e → IsEdge (change_node s id f) e
edge_served s id f n keeps known e h =
    edge_stands s (change_node s id f) e
    (serves_changed s id e.from f n e.from_class keeps known h.0.0 h.1.from)
    (serves_changed s id e.to f n e.to_class keeps known h.0.1 h.1.to) h.1

-- what is asked of the change of a node
pub record IsFitting (s : Scene) (id : ℤ) (f : Node → Node) (n : Node) : Type 0 where
  pub known : node_with s id ≡ Some n
  pub keeps : (m : Node) → (f m).id ≡ m.id
  pub node : IsNode (f n)
  pub serves : Each (IsServed id (f n)) s.edges
  pub pins : pin_count s + length (f n).pins ≤ 256 + length n.pins

pub node_changed : (s : Scene) (id : ℤ) (f : Node → Node) (n : Node) → IsValid s → IsFitting s id f n → IsValid (change_node s id f)
node_changed s id f n v h =
    let differ : Differ id_of int_eq Decides-int_eq s.nodes = pairs_from (λ x y. x.id ≢ y.id) s.nodes v.ids_differ in
    let only : IsOnly id_of int_eq Decides-int_eq id n s.nodes = only_found id_of int_eq Decides-int_eq id s.nodes n differ h.known in
    record {
      ids_differ = pairs_to (λ x y. x.id ≢ y.id) (change_node s id f).nodes (differ_changed id_of int_eq Decides-int_eq id f h.keeps s.nodes differ);
      nodes = All-from_recursion IsNode (change_node s id f).nodes (each_changed id_of int_eq Decides-int_eq IsNode id f n h.node s.nodes only (recursion_from_All IsNode s.nodes v.nodes));
      few_nodes = subst (λ k. k ≤ 256) (sym (length-map s.nodes (λ m. if int_eq m.id id then f m else m))) v.few_nodes;
      few_pins =
          let sum : pin_count (change_node s id f) + length n.pins ≡ pin_count s + length (f n).pins = sum_changed id_of int_eq Decides-int_eq (λ m. length m.pins) id f n s.nodes differ h.known in
          omega (arith, sum, h.pins);
      numbers_rise = v.numbers_rise;
      below_next = v.below_next;
      edges = All-from_recursion (IsEdge (change_node s id f)) s.edges
          (each_weaker (λ e. IsServed id (f n) e × IsEdge s e) (IsEdge (change_node s id f)) (edge_served s id f n h.keeps h.known) s.edges
          (each_both (IsServed id (f n)) (IsEdge s) s.edges h.serves (recursion_from_All (IsEdge s) s.edges v.edges)));
      few_edges = v.few_edges;
      few_via = v.few_via;
      settings = v.settings;
      next = v.next;
    }

-- one of the numbers of a sum is at most the sum
part_of_sum : {X : Type 0} (w : X → ℕ) (xs : List X) → Each (λ x. w x ≤ sum_by w xs) xs
part_of_sum w [] = tt
part_of_sum w (x ∷ xs) =
    let s = sum_by-cons w x xs in
    (omega (arith, s), each_weaker (λ y. w y ≤ sum_by w xs) (λ y. w y ≤ sum_by w (x ∷ xs)) (λ y l. omega (arith, s, l)) xs (part_of_sum w xs))

-- a node of a valid scene has few pins
pub few_pins : (s : Scene) (id : ℤ) (n : Node) → IsValid s → node_with s id ≡ Some n → length n.pins ≤ 256
few_pins s id n v known =
    let part = found_has (λ m. int_eq m.id id) (λ m. length m.pins ≤ pin_count s) s.nodes n known (part_of_sum (λ m. length m.pins) s.nodes) in
    let few = v.few_pins in
    omega (arith, part, few)
