-- Nothing is written of what has an origin.
use Rattle.std.proofs.Common.{[], ◌∷◌, sym, ap, ◌∙◌}
use Rattle.std.specs.Prelude.{cond}
use Rattle.gml_text.specs.View.{pairs}
use Rattle.scene_model.specs.declared.node.Node.{Node}
use Rattle.gml_scene.specs.Changes.{all_of}
use Rattle.gml_scene.specs.Forms.{node_pair}
use Rattle.gml_scene.specs.Labels.{given_label}
use Rattle.gml_scene.proofs.KeptParts.{not_new}
use Rattle.gml_scene.proofs.Walks.{nothing_after}
use Rattle.gml_scene.proofs.tree.Change.push_new_node.Goals as goal

pub returns-then-is_some : goal.returns-then-is_some
returns-then-is_some c =
    let n = c.args.node.now in
    nothing_after (pairs c.args.out.now.items) _ (ap (λ b. all_of (λ (m : Node). node_pair (given_label c.args.self.now.labels.now.nodes m.id) m) (cond b (n ∷ []) [])) (not_new n.origin (sym c.is_some.ensures ∙ c.if-is_some.true)))
