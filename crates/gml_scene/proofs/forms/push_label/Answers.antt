-- Nothing is written of an empty label.
use Rattle.std.proofs.Common.{sym, ◌∙◌}
use Rattle.gml_text.specs.View.{pairs}
use Rattle.gml_scene.specs.Forms.{label_pairs}
use Rattle.gml_scene.proofs.Labelling.{empty_label}
use Rattle.gml_scene.proofs.Walks.{nothing_after}
use Rattle.gml_scene.proofs.forms.push_label.Goals as goal

pub returns-then-is_empty : goal.returns-then-is_empty
returns-then-is_empty c =
    let label = c.args.label.now in
    nothing_after (pairs c.args.list.now.items) (label_pairs label) (empty_label label (sym c.is_empty.ensures ∙ c.if-is_empty.true))
