-- The report, followed by the printed diagram.
use Rattle.std.proofs.Common.{ℕ, List, subst}
use Rattle.std.specs.Prelude.{IfOk}
use Rattle.gml_text.specs.View.{tree}
use Rattle.diagram_read.specs.Scene.{scene_of}
use Rattle.gml_scene.specs.Diagram.{EndsInDiagram}
use Rattle.gml_scene.specs.Labels.{no_labels}
use Rattle.form_route.proofs.script.output.Goals as goal

pub returns : goal.returns
returns c =
    let t = tree c.args.doc.now in
    let session = c.args.session.now in
    subst (λ (front : List ℕ). IfOk (scene_of t) (λ was. EndsInDiagram t was session.world.present no_labels session.book front c.push_unlabelled.new.text.items)) c.in_ok-text.ensures c.in_ok-push_unlabelled.ensures
