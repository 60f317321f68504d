-- The lines are those that nudging returned, in the order of the answers.
use Rattle.std.proofs.Common.{sym, subst}
use Rattle.scene_model.specs.Answers.{AreAnswers}
use Rattle.gml_scene.proofs.LinesOf.{lines_are_routes}
use Rattle.drawing.specs.Lines.{AreDrawn}
use Rattle.drawing.proofs.lines.Lines.of.Goals as goal

pub returns : goal.returns
returns c =
    let scene = c.args.scene.now in
    let answers = c.answers.result.now in
    let n = c.in_ok-routes.field-0 in
    let apart = c.in_ok-routes.ensures.apart c.in_ok-routes.ensures.nudged in
    let drawn : AreDrawn scene answers n.routes.items = record {
      are_lines = record {
        right = subst (AreAnswers scene) (sym c.answers.ensures) c.requires;
        nudged = c.in_ok-routes.ensures.nudged;
      };
      apart_x = apart.0;
      apart_y = apart.1;
      legal = c.in_ok-routes.ensures.legal;
    } in
    subst (λ found. AreDrawn scene found n.routes.items) c.answers.ensures drawn

pub invariant_of-result : goal.invariant_of-result
invariant_of-result c =
    let right = subst (AreAnswers c.args.scene.now) (sym c.answers.ensures) c.requires in
    (lines_are_routes c.args.scene.now c.answers.result.now c.in_ok-routes.field-0.routes.items c.valid.ensures right c.in_ok-routes.ensures.edges).rising
