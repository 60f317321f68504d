-- To put a changed entry in the place of the old one is to change the entry.
use Rattle.std.proofs.Common.{◌≡◌, ◌≢◌, eqb, Some, set, sym, ap, subst, ◌∙◌, int_eq, is_some}
use Rattle.std.specs.Prelude.{ℕ, ℤ, IsSome}
use Rattle.std.specs.List.{position_or_len}
use Rattle.std.proofs.lemmas.Bool.Decides.{Decides-int_eq, Decides-eqb}
use Rattle.scene_model.specs.declared.node.Node.{Node}
use Rattle.scene_model.specs.declared.edge.Edge.{Edge}
use Rattle.scene_model.specs.Scene.{Scene, node_with, edge_with}
use Rattle.scene_model.specs.Valid.{IsValid}
use Rattle.scene_model.specs.Edits.{change_node, change_edge}
use Rattle.scene_model.proofs.Editing.Entries.{pairs_from, key_found, changed_at_place}
use Rattle.scene_model.proofs.Editing.Nodes.{id_of}
use Rattle.scene_model.proofs.Editing.Edges.{number_of, numbers_differ}

pub node_there : (s : Scene) (id : ℤ) (n : Node) → node_with s id ≡ Some n → IsSome (node_with s n.id)
node_there s id n known = ap is_some (ap (node_with s) (key_found id_of int_eq Decides-int_eq id s.nodes n known) ∙ known)

pub edge_there : (s : Scene) (number : ℕ) (e : Edge) → edge_with s number ≡ Some e → IsSome (edge_with s e.number)
edge_there s number e known = ap is_some (ap (edge_with s) (key_found number_of eqb Decides-eqb number s.edges e known) ∙ known)

pub node_set : (s : Scene) (id : ℤ) (n : Node) (f : Node → Node) (new : Node) → IsValid s → node_with s id ≡ Some n → f n ≡ new → change_node s n.id (λ _. new) ≡ change_node s id f
node_set s id n f new v known made =
    let differ = pairs_from (λ x y. x.id ≢ y.id) s.nodes v.ids_differ in
    let at = λ (g : Node → Node). changed_at_place id_of int_eq Decides-int_eq id g n s.nodes differ known in
    ap (λ k. change_node s k (λ _. new)) (key_found id_of int_eq Decides-int_eq id s.nodes n known)
    ∙ ap (λ ns. record s { nodes = ns }) (at (λ _. new) ∙ ap (set s.nodes (position_or_len (λ m. int_eq m.id id) s.nodes)) (sym made) ∙ sym (at f))

pub edge_set : (s : Scene) (number : ℕ) (e : Edge) (f : Edge → Edge) (new : Edge) → IsValid s → edge_with s number ≡ Some e → f e ≡ new → change_edge s e.number (λ _. new) ≡ change_edge s number f
edge_set s number e f new v known made =
    let at = λ (g : Edge → Edge). changed_at_place number_of eqb Decides-eqb number g e s.edges (numbers_differ s v) known in
    ap (λ k. change_edge s k (λ _. new)) (key_found number_of eqb Decides-eqb number s.edges e known)
    ∙ ap (λ es. record s { edges = es }) (at (λ _. new) ∙ ap (set s.edges (position_or_len (λ d. eqb d.number number) s.edges)) (sym made) ∙ sym (at f))

-- what holds of three numbers holds of equal ones
pub of_equals : (P : ℤ → ℤ → ℤ → Type 0) {a b c d e f : ℤ} → a ≡ d → b ≡ e → c ≡ f → P a b c → P d e f
of_equals P {a} {b} {c} {d} {e} {f} h i j p = subst (λ x. P d e x) j (subst (λ x. P d x c) i (subst (λ x. P x b c) h p))
