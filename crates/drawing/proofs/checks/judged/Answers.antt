-- The line can be judged, by the solids of the scene and the task of the connector.
use Rattle.std.proofs.Common.{◌≡◌, ap, subst, ◌∙◌}
use Rattle.std.specs.Prelude.{IfSome}
use Rattle.route_check.specs.Verdict.{IsVerdict}
use Rattle.scene_model.specs.Routing.{task_of}
use Rattle.drawing.proofs.Judging.{has_task, polyline, there}
use Rattle.drawing.proofs.checks.judged.Goals as goal

pub task-requires : goal.task-requires
task-requires c = has_task c.args.scene.now c.args.number c.args.corners.now c.requires

pub check-requires-clause-line : goal.check-requires-clause-line
check-requires-clause-line c = polyline c.args.scene.now c.args.number c.args.corners.now c.requires

pub returns : goal.returns
returns c =
    let s = c.args.scene.now in
    let corners = c.args.corners.now in
    let found = there s c.args.number corners c.requires in
    let task = c.in_ok-task.task in
    let is_task = subst (λ o. IfSome o (λ e. task ≡ task_of s e)) found.1 c.in_ok-task.ensures.ok in
    record {
      edge = found.0;
      is_edge = found.1;
      is_verdict = subst (λ solids. IsVerdict solids (task_of s found.0) corners c.check.result) (c.as_slice.ensures ∙ ap (λ f. f.solids) c.in_ok-floor.ensures.floor)
          (subst (λ t. IsVerdict c.as_slice.result.now t corners c.check.result) is_task c.check.ensures);
    }
