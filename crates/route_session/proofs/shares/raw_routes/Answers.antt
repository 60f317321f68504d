-- One more answer has its route, or none.
use Rattle.std.proofs.Common.{◌∙◌, ap}
use Rattle.route_session.specs.Shares.{edge_runs}
use Rattle.route_session.proofs.RawRoutes.{none_more, one_more}
use Rattle.route_session.proofs.shares.raw_routes.Goals as goal
use Rattle.route_session.proofs.shares.raw_routes.Goals.{in-Some+in_ok-edge_runs+in_ok-push, in_default}

pub loop-answer-preserved : goal.loop-answer-preserved
loop-answer-preserved c =
    let answers = c.args.answers.now in
    let i = c.loop-answer.answer-index in
    let a = c.answer-item.result in
    elim c.match-answer.branch [
      | in-Some+in_ok-edge_runs+in_ok-push w ↦
          one_more answers i a w.in-Some.route c.loop-answer.routes.items _ w.in_ok-edge_runs.field-0 c.loop-answer-test.true c.answer-item.is w.in-Some.is c.loop-answer.invariant
          (w.in_ok-edge_runs.ensures ∙ ap (edge_runs a.edge) w.as_slice.ensures) (ap (λ v. v.items) w.routes-is ∙ w.in_ok-push.ensures.items)
      | in_default w ↦ ap (λ v. v.items) w.routes-is ∙ none_more answers i a c.loop-answer.routes.items c.loop-answer-test.true c.answer-item.is w.in_default.is c.loop-answer.invariant
    ]
