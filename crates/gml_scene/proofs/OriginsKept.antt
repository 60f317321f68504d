-- Nodes and edges that come from a diagram, before edits and after them.
use Rattle.std.proofs.Common.{◌≡◌, ◌≢◌, ℕ, zero, suc, ◌<◌, Bool, true, false, Some, List, [], ◌∷◌, length, get_or, refl, sym, subst, arith, int_eq, eqb}
use Rattle.std.specs.Prelude.{ℤ, ◌==◌, find, not, Decides, IsSomeAnd, if◌then◌else◌}
use Rattle.std.proofs.lemmas.Bool.{false≢true}
use Rattle.std.proofs.lemmas.Bool.Decides.{Decides-int_eq, Decides-eqb}
use Rattle.std.proofs.lemmas.List.Elements.{All-from_recursion, All-map, All-filter, All-push, All-weaker}
use Rattle.scene_model.specs.declared.node.Node.{Node}
use Rattle.scene_model.specs.declared.edge.Edge.{Edge}
use Rattle.scene_model.specs.declared.edit.Edit.{Edit}
use Rattle.scene_model.specs.declared.edit.Edit.TheVariants.{AddNode, MoveNode, SizeNode, DropNode, AddPin, DropPin, AddEdge, CutEdge, SetClasses, AddVia, DropVia, Set}
use Rattle.scene_model.specs.Scene.{Scene}
use Rattle.scene_model.specs.Valid.{IsValid}
use Rattle.scene_model.specs.Edits.{changed, new_node, new_edge, half, change_node, change_edge}
use Rattle.scene_model.proofs.Editing.Entries.{Differ, pairs_from}
use Rattle.scene_model.proofs.Editing.Edges.{number_of, numbers_differ}
use Rattle.scene_model.proofs.Editing.Nodes.{id_of}
use Rattle.gml_scene.proofs.Places.{refuted}
use Rattle.gml_scene.specs.Origins.{IsNodeOf, IsEdgeOf, AreNodesOf, AreEdgesOf, OwnScenesFit, EditsKeepOrigins}

module _ {X K : Type 0} (key : X → K) (eq : K → K → Bool) (same : (a b : K) → Decides (eq a b) (a ≡ b)) where
  -- where no two entries have one key, each is found by its own
  found_self : (xs : List X) (k : ℕ) (d : X) → Differ key eq same xs → k < length xs → find (λ y. eq (key y) (key (get_or xs k d))) xs ≡ Some (get_or xs k d)
  found_self [] k d apart within = absurd (omega arith)
  found_self (x ∷ xs) zero d apart within = rw ((same (key x) (key x)).1 refl) refl
  found_self (x ∷ xs) (suc k) d apart within =
      let other = All-from_recursion (λ z. key x ≢ key z) xs apart.0 k d (omega arith) in
      rw (refuted (eq (key x) (key (get_or xs k d))) (same (key x) (key (get_or xs k d))) other) (found_self xs k d apart.1 (omega arith))

own_nodes : (s : Scene) → IsValid s → AreNodesOf s s
own_nodes s valid k d within some =
    let n = get_or s.nodes k d in
    let found = found_self id_of int_eq Decides-int_eq s.nodes k d (pairs_from (λ x y. x.id ≢ y.id) s.nodes valid.ids_differ) within in
    subst (λ o. IsSomeAnd o (λ m. m.origin ≡ n.origin)) (sym found) refl

own_edges : (s : Scene) → IsValid s → AreEdgesOf s s
own_edges s valid k d within some =
    let e = get_or s.edges k d in
    let found = found_self number_of eqb Decides-eqb s.edges k d (numbers_differ s valid) within in
    subst (λ o. IsSomeAnd o (λ c. (c.origin ≡ e.origin) × (c.from ≡ e.from) × (c.to ≡ e.to))) (sym found) (refl, refl, refl)

pub own_scenes_fit : OwnScenesFit
own_scenes_fit = record { nodes = own_nodes; edges = own_edges }

choice : {X : Type 0} (P : X → Type 0) (b : Bool) (x y : X) → P x → P y → P (if b then x else y)
choice P true x y one other = one
choice P false x y one other = other

node_changed : (was s : Scene) (id : ℤ) (f : Node → Node) → ((n : Node) → IsNodeOf was n → IsNodeOf was (f n)) → AreNodesOf was s → AreNodesOf was (change_node s id f)
node_changed was s id f keeps all =
    All-map (IsNodeOf was) (λ (n : Node). if int_eq n.id id then f n else n) s.nodes
    (All-weaker (IsNodeOf was) (λ n. IsNodeOf was (if int_eq n.id id then f n else n)) (λ n of. choice (IsNodeOf was) (int_eq n.id id) (f n) n (keeps n of) of) s.nodes all)

edge_changed : (was s : Scene) (number : ℕ) (f : Edge → Edge) → ((e : Edge) → IsEdgeOf was e → IsEdgeOf was (f e)) → AreEdgesOf was s → AreEdgesOf was (change_edge s number f)
edge_changed was s number f keeps all =
    All-map (IsEdgeOf was) (λ (e : Edge). if e.number == number then f e else e) s.edges
    (All-weaker (IsEdgeOf was) (λ e. IsEdgeOf was (if e.number == number then f e else e)) (λ e of. choice (IsEdgeOf was) (e.number == number) (f e) e (keeps e of) of) s.edges all)

nodes_kept : (was s : Scene) (e : Edit) → AreNodesOf was s → AreNodesOf was (changed e s)
nodes_kept was s (AddNode id x y w h) all = All-push (IsNodeOf was) s.nodes (new_node id x y (half w) (half h)) all (λ some. absurd (false≢true some))
nodes_kept was s (MoveNode id x y) all = node_changed was s id _ (λ n of. of) all
nodes_kept was s (SizeNode id w h) all = node_changed was s id _ (λ n of. of) all
nodes_kept was s (DropNode id) all = All-filter (λ n. not (int_eq n.id id)) (IsNodeOf was) s.nodes all
nodes_kept was s (AddPin id class dx dy dirs) all = node_changed was s id _ (λ n of. of) all
nodes_kept was s (DropPin id place) all = node_changed was s id _ (λ n of. of) all
nodes_kept was s (AddEdge from to from_class to_class) all = all
nodes_kept was s (CutEdge number) all = all
nodes_kept was s (SetClasses number from_class to_class) all = all
nodes_kept was s (AddVia number place x y) all = all
nodes_kept was s (DropVia number place) all = all
nodes_kept was s (Set what value) all = all

edges_kept : (was s : Scene) (e : Edit) → AreEdgesOf was s → AreEdgesOf was (changed e s)
edges_kept was s (AddNode id x y w h) all = all
edges_kept was s (MoveNode id x y) all = all
edges_kept was s (SizeNode id w h) all = all
edges_kept was s (DropNode id) all = all
edges_kept was s (AddPin id class dx dy dirs) all = all
edges_kept was s (DropPin id place) all = all
edges_kept was s (AddEdge from to from_class to_class) all = All-push (IsEdgeOf was) s.edges (new_edge s.next_edge from to from_class to_class) all (λ some. absurd (false≢true some))
edges_kept was s (CutEdge number) all = All-filter (λ e. not (e.number == number)) (IsEdgeOf was) s.edges all
edges_kept was s (SetClasses number from_class to_class) all = edge_changed was s number _ (λ e of. of) all
edges_kept was s (AddVia number place x y) all = edge_changed was s number _ (λ e of. of) all
edges_kept was s (DropVia number place) all = edge_changed was s number _ (λ e of. of) all
edges_kept was s (Set what value) all = all

pub edits_keep_origins : EditsKeepOrigins
edits_keep_origins = record { nodes = nodes_kept; edges = edges_kept }
