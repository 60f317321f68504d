-- The edge's ends are nodes of a valid scene.
use Rattle.std.proofs.Common.{◌≡◌, rules, sym, ap, subst, ◌∙◌, w64, to_z, of_z, is_some}
use Rattle.std.specs.Prelude.{option_copied, IsSome}
use Rattle.std.proofs.lemmas.List.Elements.{recursion_from_All}
use Rattle.scene_model.specs.declared.edge.Edge.{Edge}
use Rattle.scene_model.specs.Scene.{Scene, node_with}
use Rattle.scene_model.specs.Valid.{IsEdge}
use Rattle.scene_model.proofs.Editing.Entries.{found_has}
use Rattle.scene_model.proofs.Editing.EdgeEdits.{found_by}
use Rattle.scene_store.proofs.routing.task.Goals as goal

source_there : (s : Scene) (e : Edge) → IsEdge s e → IsSome (node_with s e.from)
source_there s e h = ap is_some (found_by (node_with s e.from) e.from_class h.from).1

target_there : (s : Scene) (e : Edge) → IsEdge s e → IsSome (node_with s e.to)
target_there s e h = ap is_some (found_by (node_with s e.to) e.to_class h.to).1

pub choices_at-requires-clause-there : goal.choices_at-requires-clause-there
choices_at-requires-clause-there c =
    let s = c.args.parts.now in
    let e = c.unwrap-edge.result.now in
    let same : to_z w64 (of_z w64 e.from) ≡ e.from = search rules in
    let known = sym c.edge.ensures ∙ ap option_copied c.unwrap-edge.ensures in
    subst (λ k. IsSome (node_with s k)) (sym same)
    (source_there s e (found_has _ (IsEdge s) s.edges e known (recursion_from_All (IsEdge s) s.edges c.requires.valid.edges)))

pub choices_at-requires-2-clause-there : goal.choices_at-requires-2-clause-there
choices_at-requires-2-clause-there c =
    let s = c.args.parts.now in
    let e = c.unwrap-edge.result.now in
    let same : to_z w64 (of_z w64 e.to) ≡ e.to = search rules in
    let known = sym c.edge.ensures ∙ ap option_copied c.unwrap-edge.ensures in
    subst (λ k. IsSome (node_with s k)) (sym same)
    (target_there s e (found_has _ (IsEdge s) s.edges e known (recursion_from_All (IsEdge s) s.edges c.requires.valid.edges)))
