-- Which solids a scene has.
use Rattle.std.proofs.Common.{◌≡◌, ◌≢◌, ◌↔◌, inl, inr, ℕ, ◌+◌, Bool, true, false, Option, Some, None, List, [], ◌∷◌, ◌++◌, take, get_or, refl, sym, ap, subst, ◌∙◌, int_eq}
use Rattle.std.specs.Prelude.{ℤ, All, Contains, option_to_list, slice_get, if◌then◌else◌}
use Rattle.std.specs.List.{AllByRecursion as Each, flat_map}
use Rattle.std.proofs.lemmas.List.{take_more, flat_map_more}
use Rattle.std.proofs.lemmas.Option.{slice_get_within, get_or_from_slice_get}
use Rattle.std.proofs.lemmas.Bool.Decides.{Decides-int_eq}
use Rattle.std.proofs.lemmas.List.Elements.{All-from_recursion, recursion_from_All, All-contains, Contains-append_left, Contains-append_right, Contains-append_cases, Contains-push}
use Rattle.plane_geom.specs.declared.rect.Solid.{Solid}
use Rattle.scene_model.specs.declared.node.Node.{Node}
use Rattle.scene_model.specs.Scene.{Scene, node_with}
use Rattle.scene_model.specs.Valid.{IsNode, IsValid}
use Rattle.scene_model.specs.Routing.{buffered_box, solid_of, solids}
use Rattle.scene_model.proofs.Editing.Entries.{each_weaker, found_has, keyless, only_found, pairs_from}
use Rattle.scene_model.proofs.Editing.Nodes.{id_of}
use Rattle.scene_model.proofs.ForRouting.Floors.{join_flat}

-- a node that is found is one of the scene's
pub node_found : (s : Scene) (id : ℤ) (n : Node) → IsValid s → node_with s id ≡ Some n → IsNode n
node_found s id n v known = found_has (λ m. int_eq m.id id) IsNode s.nodes n known (recursion_from_All IsNode s.nodes v.nodes)

-- the lists that a node gives are among all of them
each_within : {X Y : Type 0} (f : X → List Y) (xs : List X) → Each (λ x. (y : Y) → Contains (f x) y → Contains (flat_map f xs) y) xs
each_within f [] = tt
each_within f (x ∷ xs) = (
  λ y has. Contains-append_left (f x) (flat_map f xs) y has,
  each_weaker (λ z. (y : _) → Contains (f z) y → Contains (flat_map f xs) y) (λ z. (y : _) → Contains (f z) y → Contains (flat_map f (x ∷ xs)) y)
      (λ z h y has. Contains-append_right (f x) (flat_map f xs) y (h y has)) xs (each_within f xs),
)

solid_by : (P : Solid → Type 0) (t : Solid) (b : Bool) → P t → Each P (if b then [] else t ∷ [])
solid_by P t true h = tt
solid_by P t false h = (h, tt)

alone : (t : Solid) (b : Bool) → Each (λ y. (if b then [] else t ∷ []) ≡ y ∷ []) (if b then [] else t ∷ [])
alone t true = tt
alone t false = (refl, tt)

each_both_by : {X : Type 0} (P Q : X → Type 0) (xs : List X) → Each P xs → Each Q xs → Each (λ x. P x × Q x) xs
each_both_by P Q [] p q = tt
each_both_by P Q (x ∷ xs) p q = ((p.0, q.0), each_both_by P Q xs p.1 q.1)

-- the solid of a node, found by its id
of_node : (b : ℤ) (id : ℤ) (n m : Node) → (m.id ≡ id → m ≡ n) → Each (λ y. y.node ≡ id → solid_of b n ≡ y ∷ []) (solid_of b m)
of_node b id n m only =
    let t : Solid = record { node = m.id; rect = buffered_box b m } in
    each_weaker (λ y. (y.node ≡ m.id) × (solid_of b m ≡ y ∷ [])) (λ y. y.node ≡ id → solid_of b n ≡ y ∷ [])
    (λ y h at. ap (solid_of b) (sym (only (sym h.0 ∙ at))) ∙ h.1) (solid_of b m)
    (each_both_by (λ y. y.node ≡ m.id) (λ y. solid_of b m ≡ y ∷ []) (solid_of b m) (solid_by (λ y. y.node ≡ m.id) t m.group refl) (alone t m.group))

only_one : (o : Option Solid) (x : Solid) → option_to_list o ≡ x ∷ [] → o ≡ Some x
only_one None x h = cc
only_one (Some y) x h = cc

-- where the node with the solid's id is found, the scene has the solid where it is the node's
pub solid_of_found : (s : Scene) (x : Solid) (n : Node) (o : Option Solid) → IsValid s → node_with s x.node ≡ Some n → option_to_list o ≡ solid_of s.settings.buffer n → (o ≡ Some x) ↔ Contains (solids s) x
solid_of_found s x n o v known is = (
  λ own.
      let list : solid_of s.settings.buffer n ≡ x ∷ [] = sym is ∙ ap option_to_list own in
      found_has (λ m. int_eq m.id x.node) (λ m. (y : Solid) → Contains (solid_of s.settings.buffer m) y → Contains (solids s) y) s.nodes n known (each_within (solid_of s.settings.buffer) s.nodes) x
      (subst (λ (l : List Solid). Contains l x) (sym list) (Contains-push [] x)),
  λ has.
      let each = each_weaker (λ m. m.id ≡ x.node → m ≡ n) (λ m. Each (λ y. y.node ≡ x.node → solid_of s.settings.buffer n ≡ y ∷ []) (solid_of s.settings.buffer m)) (λ m only. of_node s.settings.buffer x.node n m only) s.nodes
      (only_found id_of int_eq Decides-int_eq x.node s.nodes n (pairs_from (λ a b. a.id ≢ b.id) s.nodes v.ids_differ) known) in
      let P : Solid → Type 0 = λ y. y.node ≡ x.node → solid_of s.settings.buffer n ≡ y ∷ [] in
      only_one o x (is ∙ All-contains P (solids s) x (All-from_recursion P (solids s) (join_flat P (solid_of s.settings.buffer) s.nodes each)) has refl),
)

-- and where none is found, it has no such solid
pub no_solid : (s : Scene) (x : Solid) → node_with s x.node ≡ None → Contains (solids s) x → ⊥
no_solid s x none has =
    let P : Solid → Type 0 = λ y. y.node ≢ x.node in
    let each = each_weaker (λ m. m.id ≢ x.node) (λ m. Each P (solid_of s.settings.buffer m))
    (λ m n. solid_by P (record { node = m.id; rect = buffered_box s.settings.buffer m }) m.group n) s.nodes (keyless id_of int_eq Decides-int_eq x.node s.nodes none) in
    All-contains P (solids s) x (All-from_recursion P (solids s) (join_flat P (solid_of s.settings.buffer) s.nodes each)) has refl

-- among the solids of the first nodes those that went are listed
abbrev pub ListsRemoved : Scene → Scene → List Node → List Solid → Type 0
ListsRemoved old new nodes removed = (s : Solid) → Contains (flat_map (solid_of old.settings.buffer) nodes) s → (Contains (solids new) s → ⊥) → Contains removed s

next_flat : (b : ℤ) (nodes : List Node) (i : ℕ) (n : Node) → slice_get nodes i ≡ Some n → flat_map (solid_of b) (take (i + 1) nodes) ≡ flat_map (solid_of b) (take i nodes) ++ solid_of b n
next_flat b nodes i n at =
    let lt = slice_get_within nodes i n at in
    let same : get_or nodes i n ≡ n = get_or_from_slice_get nodes i n n at in
    ap (flat_map (solid_of b)) (take_more nodes i n lt ∙ ap (λ m. take i nodes ++ m ∷ []) same) ∙ sym (flat_map_more (solid_of b) [] (take i nodes) n)

-- one node more, whose solid stays, or which has none
pub lists_same : (old new : Scene) (i : ℕ) (n : Node) (removed : List Solid) → slice_get old.nodes i ≡ Some n → ((s : Solid) → Contains (solid_of old.settings.buffer n) s → Contains (solids new) s)
    → ListsRemoved old new (take i old.nodes) removed → ListsRemoved old new (take (i + 1) old.nodes) removed
lists_same old new i n removed at stays lists s has gone =
    elim (Contains-append_cases (flat_map (solid_of old.settings.buffer) (take i old.nodes)) (solid_of old.settings.buffer n) s (subst (λ (l : List Solid). Contains l s) (next_flat old.settings.buffer old.nodes i n at) has)) as (λ _. Contains removed s) [
      | inl before ↦ lists s before gone
      | inr here ↦ absurd (gone (stays s here))
    ]

-- one node more, whose solid went
pub lists_more : (old new : Scene) (i : ℕ) (n : Node) (x : Solid) (removed : List Solid) → slice_get old.nodes i ≡ Some n → solid_of old.settings.buffer n ≡ x ∷ []
    → ListsRemoved old new (take i old.nodes) removed → ListsRemoved old new (take (i + 1) old.nodes) (removed ++ x ∷ [])
lists_more old new i n x removed at own lists s has gone =
    elim (Contains-append_cases (flat_map (solid_of old.settings.buffer) (take i old.nodes)) (solid_of old.settings.buffer n) s (subst (λ (l : List Solid). Contains l s) (next_flat old.settings.buffer old.nodes i n at) has)) as (λ _. Contains (removed ++ x ∷ []) s) [
      | inl before ↦ Contains-append_left removed (x ∷ []) s (lists s before gone)
      | inr here ↦ Contains-append_right removed (x ∷ []) s (subst (λ (l : List Solid). Contains l s) own here)
    ]

-- the solid of a node is the scene's
pub own_solid : (s : Scene) (i : ℕ) (n : Node) (x : Solid) → slice_get s.nodes i ≡ Some n → solid_of s.settings.buffer n ≡ x ∷ [] → Contains (solids s) x
own_solid s i n x at own =
    let lt = slice_get_within s.nodes i n at in
    let P : Node → Type 0 = λ m. (y : Solid) → Contains (solid_of s.settings.buffer m) y → Contains (solids s) y in
    let each : All P s.nodes = All-from_recursion P s.nodes (each_within (solid_of s.settings.buffer) s.nodes) in
    let here : P n = subst P (get_or_from_slice_get s.nodes i n n at) (each i n lt) in
    here x (subst (λ (l : List Solid). Contains l x) (sym own) (Contains-push [] x))
