-- The inverse of an edit takes it back.
use Rattle.std.proofs.Common.{◌≡◌, ◌≢◌, ℕ, suc, ◌+◌, ◌-◌, ◌<◌, ◌≤◌, Bool, false, eqb, Option, None, Some, is_some, List, [], ◌∷◌, ◌++◌, length, refl, sym, ap, ap₂, subst, inl, inr, ◌⊎◌, ne_eqb, ◌∙◌, arith, int_eq, lt-ltb}
use Rattle.std.specs.Prelude.{ℤ, option_map, if◌then◌else◌, position, insert, remove, ◌==◌, IsSome, IsNone, nat_lt}
use Rattle.std.specs.List.{position_or_len}
use Rattle.std.specs.Option.{option_map_or}
use Rattle.std.proofs.lemmas.Bool.{cond-true, cases_lt}
use Rattle.std.proofs.lemmas.List.{length_push, take_all, drop_all}
use Rattle.std.proofs.lemmas.Bool.Decides.{Decides-int_eq, Decides-eqb}
use Rattle.std.proofs.lemmas.List.Elements.{recursion_from_All}
use Rattle.scene_model.specs.declared.node.Node.{Node}
use Rattle.scene_model.specs.declared.edge.Edge.{Edge}
use Rattle.scene_model.specs.declared.edit.Inverse.{Inverse}
use Rattle.scene_model.specs.declared.edit.Inverse.TheVariants.{PutNode, TakeNode, SetNode, PutEdge, TakeEdge, SetEdge}
use Rattle.scene_model.specs.declared.edit.Edit.TheVariants.{AddNode, MoveNode, SizeNode, DropNode, AddPin, DropPin, AddEdge, CutEdge, SetClasses, AddVia, DropVia, Set}
use Rattle.scene_model.specs.declared.settings.Setting.{Setting}
use Rattle.scene_model.specs.declared.settings.Setting.TheVariants.{Penalty, Buffer, Nudge}
use Rattle.scene_model.specs.declared.settings.Settings.{Settings}
use Rattle.scene_model.specs.Scene.{Scene, node_with, edge_with}
use Rattle.scene_model.specs.Valid.{IsValid}
use Rattle.scene_model.specs.Edits.{refusals, changed, change_node, change_edge, with_setting, half, new_pin, new_node, new_edge}
use Rattle.scene_model.specs.Inverses.{restored, Fits, set_node, set_edge, put_node, put_edge, setting_value, TakesBack}
use Rattle.scene_model.proofs.Editing.Entries.{Differ, IsOnly, pairs_from, only_found, key_found, find_changed, changed_back, back_at_place, without, without_last, keyless, absent, found_last, each_weaker, found_none}
use Rattle.scene_model.proofs.Editing.Refusals.{all_none, when_none, none_of, known_node, known_edge}
use Rattle.scene_model.proofs.Editing.Nodes.{id_of}
use Rattle.scene_model.proofs.Editing.Edges.{number_of, numbers_differ}

-- the inverse may be applied to the scene after, and gives the scene before
abbrev TakesBackTo : Inverse → Scene → Scene → Type 0
TakesBackTo i after before = Fits i after × (restored i after ≡ before)

ids_differ : (s : Scene) → IsValid s → Differ id_of int_eq Decides-int_eq s.nodes
ids_differ s v = pairs_from (λ m n. m.id ≢ n.id) s.nodes v.ids_differ

is_some_map : {X : Type 0} (f : X → X) (o : Option X) (x : X) → o ≡ Some x → IsSome (option_map f o)
is_some_map f o x e = ap (λ z. is_some (option_map f z)) e

-- a node that was changed
node_back : (s : Scene) (id : ℤ) (f : Node → Node) (n : Node) → IsValid s → node_with s id ≡ Some n → ((m : Node) → (f m).id ≡ m.id)
    → TakesBackTo (set_node s id) (change_node s id f) s
node_back s id f n v known keeps =
    let own : n.id ≡ id = key_found id_of int_eq Decides-int_eq id s.nodes n known in
    let is_set : set_node s id ≡ SetNode n = ap (λ o. option_map_or SetNode o (TakeNode id)) known in
    let only : IsOnly id_of int_eq Decides-int_eq id n s.nodes = only_found id_of int_eq Decides-int_eq id s.nodes n (ids_differ s v) known in
    let fits : IsSome (node_with (change_node s id f) id) =
    ap is_some (find_changed id_of int_eq Decides-int_eq id f keeps id s.nodes) ∙ is_some_map (λ m. if int_eq m.id id then f m else m) (node_with s id) n known in
    let back : change_node (change_node s id f) id (λ _. n) ≡ s = ap (λ ns. record s { nodes = ns }) (changed_back id_of int_eq Decides-int_eq id f n keeps s.nodes only) in
    subst (λ i. TakesBackTo i (change_node s id f) s) (sym is_set) (
      subst (λ i. IsSome (node_with (change_node s id f) i)) (sym own) fits,
      subst (λ i. change_node (change_node s id f) i (λ _. n) ≡ s) (sym own) back,
    )

-- an edge that was changed
edge_back : (s : Scene) (number : ℕ) (f : Edge → Edge) (e : Edge) → IsValid s → edge_with s number ≡ Some e → ((d : Edge) → (f d).number ≡ d.number)
    → TakesBackTo (set_edge s number) (change_edge s number f) s
edge_back s number f e v known keeps =
    let own : e.number ≡ number = key_found number_of eqb Decides-eqb number s.edges e known in
    let is_set : set_edge s number ≡ SetEdge e = ap (λ o. option_map_or SetEdge o (TakeEdge number s.next_edge)) known in
    let only : IsOnly number_of eqb Decides-eqb number e s.edges = only_found number_of eqb Decides-eqb number s.edges e (numbers_differ s v) known in
    let fits : IsSome (edge_with (change_edge s number f) number) =
    ap is_some (find_changed number_of eqb Decides-eqb number f keeps number s.edges) ∙ is_some_map (λ d. if d.number == number then f d else d) (edge_with s number) e known in
    let back : change_edge (change_edge s number f) number (λ _. e) ≡ s = ap (λ es. record s { edges = es }) (changed_back number_of eqb Decides-eqb number f e keeps s.edges only) in
    subst (λ i. TakesBackTo i (change_edge s number f) s) (sym is_set) (
      subst (λ i. IsSome (edge_with (change_edge s number f) i)) (sym own) fits,
      subst (λ i. change_edge (change_edge s number f) i (λ _. e) ≡ s) (sym own) back,
    )

position_is : {X : Type 0} (p : X → Bool) (xs : List X) → position_or_len p xs < length xs → option_map_or (λ k. k) (position p xs) 0 ≡ position_or_len p xs
position_is p xs l =
    ap (λ o. option_map_or (λ k. k) o 0) (cond-true (nat_lt (position_or_len p xs) (length xs)) (Some (position_or_len p xs)) None (lt-ltb (position_or_len p xs) (length xs) l))

suc_less : (k : ℕ) → suc k - 1 ≡ k
suc_less k = omega arith

-- the place is within the shorter list or right after it
insert_length : {X : Type 0} (xs : List X) (k : ℕ) (x : X) (ys : List X) → insert xs k x ≡ ys → k < length ys → suc k ≤ length xs + 1
insert_length xs k x ys e l = by (cases_lt (length xs) k)
  where
    by : (length xs < k) ⊎ (k ≤ length xs) → suc k ≤ length xs + 1
    by (inl long) =
        let short : insert xs k x ≡ xs ++ x ∷ [] = ap₂ (λ a b. a ++ x ∷ b) (take_all k xs (omega (arith, long))) (drop_all k xs (omega (arith, long))) in
        let count = ap length (sym short ∙ e) in
        let push = length_push xs x in
        omega (arith, count, push, l, long)
    by (inr within) = omega (arith, within)

-- a node that was dropped
dropped_back : (s : Scene) (id : ℤ) (n : Node) → IsValid s → node_with s id ≡ Some n → TakesBackTo (put_node s id) (changed (DropNode id) s) s
dropped_back s id n v known =
    let own : n.id ≡ id = key_found id_of int_eq Decides-int_eq id s.nodes n known in
    let p : Node → Bool = λ m. int_eq m.id id in
    let at = back_at_place id_of int_eq Decides-int_eq id n s.nodes (ids_differ s v) known in
    let is_put : put_node s id ≡ PutNode (suc (position_or_len p s.nodes)) n =
    ap (λ o. option_map_or (λ m. PutNode (suc (option_map_or (λ k. k) (position p s.nodes) 0)) m) o (TakeNode id)) known
    ∙ ap (λ k. PutNode (suc k) n) (position_is p s.nodes at.1) in
    let gone : IsNone (node_with (changed (DropNode id) s) id) = ap is_some (absent id_of int_eq Decides-int_eq id s.nodes) in
    let count = insert_length (without id_of int_eq Decides-int_eq id s.nodes) (position_or_len p s.nodes) n s.nodes at.0 at.1 in
    subst (λ i. TakesBackTo i (changed (DropNode id) s) s) (sym is_put) (
      (subst (λ i. IsNone (node_with (changed (DropNode id) s) i)) (sym own) gone, omega arith, count),
      ap (λ k. record s { nodes = insert (without id_of int_eq Decides-int_eq id s.nodes) k n }) (suc_less (position_or_len p s.nodes)) ∙ ap (λ ns. record s { nodes = ns }) at.0,
    )

-- an edge that was cut
cut_back : (s : Scene) (number : ℕ) (e : Edge) → IsValid s → edge_with s number ≡ Some e → TakesBackTo (put_edge s number) (changed (CutEdge number) s) s
cut_back s number e v known =
    let own : e.number ≡ number = key_found number_of eqb Decides-eqb number s.edges e known in
    let p : Edge → Bool = λ d. d.number == number in
    let at = back_at_place number_of eqb Decides-eqb number e s.edges (numbers_differ s v) known in
    let is_put : put_edge s number ≡ PutEdge (suc (position_or_len p s.edges)) e =
    ap (λ o. option_map_or (λ d. PutEdge (suc (option_map_or (λ k. k) (position p s.edges) 0)) d) o (TakeEdge number s.next_edge)) known
    ∙ ap (λ k. PutEdge (suc k) e) (position_is p s.edges at.1) in
    let gone : IsNone (edge_with (changed (CutEdge number) s) number) = ap is_some (absent number_of eqb Decides-eqb number s.edges) in
    let count = insert_length (without number_of eqb Decides-eqb number s.edges) (position_or_len p s.edges) e s.edges at.0 at.1 in
    subst (λ i. TakesBackTo i (changed (CutEdge number) s) s) (sym is_put) (
      (subst (λ i. IsNone (edge_with (changed (CutEdge number) s) i)) (sym own) gone, omega arith, count),
      ap (λ k. record s { edges = insert (without number_of eqb Decides-eqb number s.edges) k e }) (suc_less (position_or_len p s.edges)) ∙ ap (λ es. record s { edges = es }) at.0,
    )

-- a node that was added
added_back : (s : Scene) (id x y w h : ℤ) → node_with s id ≡ None → TakesBackTo (TakeNode id) (changed (AddNode id x y w h) s) s
added_back s id x y w h fresh =
    let new : Node = new_node id x y (half w) (half h) in (
      ap is_some (found_last (λ n. int_eq n.id id) s.nodes new fresh ((Decides-int_eq id id).1 refl)),
      ap (λ ns. record s { nodes = ns }) (without_last id_of int_eq Decides-int_eq id s.nodes new (keyless id_of int_eq Decides-int_eq id s.nodes fresh) refl),
    )

below_differ : (next : ℕ) (e : Edge) → e.number < next → e.number ≢ next
below_differ next e l h = omega (arith, l, h)

not_equal : (next : ℕ) (e : Edge) → e.number < next → (e.number == next) ≡ false
not_equal next e l = ne_eqb e.number next (below_differ next e l)

-- an edge that was added
edge_added_back : (s : Scene) (from to : ℤ) (from_class to_class : ℕ) → IsValid s → TakesBackTo (TakeEdge s.next_edge s.next_edge) (changed (AddEdge from to from_class to_class) s) s
edge_added_back s from to from_class to_class v =
    let new : Edge = new_edge s.next_edge from to from_class to_class in
    let below = recursion_from_All (λ e. e.number < s.next_edge) s.edges v.below_next in
    let fresh : edge_with s s.next_edge ≡ None = found_none (λ e. e.number == s.next_edge) s.edges (each_weaker (λ e. e.number < s.next_edge) (λ e. (e.number == s.next_edge) ≡ false) (not_equal s.next_edge) s.edges below) in (
      ap is_some (found_last (λ e. e.number == s.next_edge) s.edges new fresh ((Decides-eqb s.next_edge s.next_edge).1 refl)),
      ap (λ es. record s { edges = es })
          (without_last number_of eqb Decides-eqb s.next_edge s.edges new
          (each_weaker (λ e. e.number < s.next_edge) (λ e. e.number ≢ s.next_edge) (below_differ s.next_edge) s.edges below) refl),
    )

set_back : (what : Setting) (value : ℤ) (t : Settings) → with_setting what (setting_value what t) (with_setting what value t) ≡ t
set_back Penalty value t = refl
set_back Buffer value t = refl
set_back Nudge value t = refl

pub takes_back : TakesBack
takes_back (AddNode id x y w h) s v r = added_back s id x y w h (none_of (node_with s id) (when_none _ _ (all_none (refusals (AddNode id x y w h) s) r).0))
takes_back (MoveNode id x y) s v r =
    let k = known_node s id (all_none (refusals (MoveNode id x y) s) r).0 in node_back s id (λ n. record n { x = x; y = y }) k.0 v k.1 (λ m. refl)
takes_back (SizeNode id w h) s v r =
    let k = known_node s id (all_none (refusals (SizeNode id w h) s) r).0 in node_back s id (λ n. record n { half_w = half w; half_h = half h }) k.0 v k.1 (λ m. refl)
takes_back (DropNode id) s v r =
    let k = known_node s id (all_none (refusals (DropNode id) s) r).0 in dropped_back s id k.0 v k.1
takes_back (AddPin id class dx dy dirs) s v r =
    let k = known_node s id (all_none (refusals (AddPin id class dx dy dirs) s) r).0 in
    node_back s id (λ n. record n { pins = n.pins ++ new_pin class dx dy dirs ∷ [] }) k.0 v k.1 (λ m. refl)
takes_back (DropPin id place) s v r =
    let k = known_node s id (all_none (refusals (DropPin id place) s) r).0 in node_back s id (λ n. record n { pins = remove n.pins (place - 1) }) k.0 v k.1 (λ m. refl)
takes_back (AddEdge from to from_class to_class) s v r = edge_added_back s from to from_class to_class v
takes_back (CutEdge number) s v r =
    let k = known_edge s number (all_none (refusals (CutEdge number) s) r).0 in cut_back s number k.0 v k.1
takes_back (SetClasses number from_class to_class) s v r =
    let k = known_edge s number (all_none (refusals (SetClasses number from_class to_class) s) r).0 in
    edge_back s number (λ e. record e { from_class = from_class; to_class = to_class }) k.0 v k.1 (λ d. refl)
takes_back (AddVia number place x y) s v r =
    let k = known_edge s number (all_none (refusals (AddVia number place x y) s) r).0 in
    edge_back s number (λ e. record e { via = insert e.via (place - 1) (record { x = x; y = y }) }) k.0 v k.1 (λ d. refl)
takes_back (DropVia number place) s v r =
    let k = known_edge s number (all_none (refusals (DropVia number place) s) r).0 in
    edge_back s number (λ e. record e { via = remove e.via (place - 1) }) k.0 v k.1 (λ d. refl)
takes_back (Set what value) s v r = (tt, ap (λ t. record s { settings = t }) (set_back what value s.settings))
