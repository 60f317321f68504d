-- The nudged lines are routes of the scene, and its lines.
use Rattle.std.proofs.Common.{◌++◌, ◌∙◌, ap, sym, subst}
use Rattle.std.proofs.lemmas.Result.{IfOk-weaker, on_ok_weaker}
use Rattle.gml_text.specs.Printed.{printed}
use Rattle.gml_text.specs.View.{tree}
use Rattle.diagram_read.specs.Scene.{scene_of}
use Rattle.gml_scene.specs.Origins.{AreRoutesOf}
use Rattle.gml_scene.specs.Tree.{tree_of}
use Rattle.gml_scene.proofs.LinesOf.{lines_are_routes}
use Rattle.gml_scene.proofs.printing.push_diagram.Goals as goal

pub push_lines-requires-clause-routes : goal.push_lines-requires-clause-routes
push_lines-requires-clause-routes c =
    subst (AreRoutesOf c.args.scene.now) (sym c.deref.ensures.value)
    (lines_are_routes c.args.scene.now c.args.answers.now c.in_ok-nudged.nudged.routes.items c.valid.ensures c.requires.right c.in_ok-nudged.ensures.edges)

pub returns : goal.returns
returns c =
    let t = tree c.args.doc.now in
    on_ok_weaker c.push_lines.result (IfOk-weaker (scene_of t) _ _ (λ was is_text. record {
      lines = c.in_ok-nudged.nudged.routes.items;
      are_lines = record { right = c.requires.right; nudged = c.in_ok-nudged.ensures.nudged };
      is_text = is_text ∙ ap (λ lines. c.args.text.now.items ++ printed (tree_of t was c.args.scene.now c.args.labels.now lines)) c.deref.ensures.value;
    }))
    c.push_lines.ensures
