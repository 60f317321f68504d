-- The diagram is that of the session's present scene and answers, and there are no labels.
use Rattle.std.proofs.Common.{List, ◌∙◌, subst}
use Rattle.std.specs.Prelude.{IfOk, OnOk}
use Rattle.gml_text.specs.View.{tree}
use Rattle.walk_model.specs.declared.route.Answer.{Answer}
use Rattle.scene_model.specs.Scene.{Scene}
use Rattle.diagram_read.specs.Scene.{scene_of}
use Rattle.gml_scene.specs.Diagram.{EndsInDiagram}
use Rattle.gml_scene.specs.Labels.{LabelLists, no_labels}
use Rattle.form_route.proofs.script.push_unlabelled.Goals as goal

pub returns : goal.returns
returns c =
    let t = tree c.args.doc.now in
    let before = c.args.text.now.items in
    let after = c.push_diagram.new.text.items in
    subst (λ (s : Scene). OnOk c.push_diagram.result (IfOk (scene_of t) (λ was. EndsInDiagram t was s no_labels c.args.session.now.book before after))) c.scene.ensures.scene
    (subst (λ (answers : List Answer). OnOk c.push_diagram.result (IfOk (scene_of t) (λ was. EndsInDiagram t was c.scene.result.now no_labels answers before after))) (c.answers-answers.ensures ∙ c.book.ensures.book)
    (subst (λ (labels : LabelLists). OnOk c.push_diagram.result (IfOk (scene_of t) (λ was. EndsInDiagram t was c.scene.result.now labels c.answers-answers.result.now before after))) c.none-labels.ensures c.push_diagram.ensures))
