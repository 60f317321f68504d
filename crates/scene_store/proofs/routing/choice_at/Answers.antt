-- The node that is found is one of a valid scene.
use Rattle.std.proofs.Common.{sym, ap, ◌∙◌}
use Rattle.std.specs.Prelude.{option_copied}
use Rattle.std.proofs.lemmas.List.Elements.{recursion_from_All}
use Rattle.scene_model.specs.Valid.{IsNode}
use Rattle.scene_model.proofs.Editing.Entries.{found_has}
use Rattle.scene_store.proofs.routing.choice_at.Goals as goal

pub choice_of_class-requires-clause-node : goal.choice_of_class-requires-clause-node
choice_of_class-requires-clause-node c =
    let s = c.args.parts.now in
    let known = sym c.node.ensures ∙ ap option_copied c.in_ok-node.was in
    found_has _ IsNode s.nodes c.in_ok-node.field-0.now known (recursion_from_All IsNode s.nodes c.requires.nodes)
