-- One more answer has its raw route, or none.
use Rattle.std.proofs.Common.{◌≡◌, ℕ, ◌+◌, ◌++◌, ◌∷◌, [], ◌<◌, None, Some, List, length, take, get_or, arith, sym, ap, subst, ◌∙◌}
use Rattle.std.specs.Prelude.{IsSomeAnd}
use Rattle.std.specs.List.{AllZip}
use Rattle.std.proofs.lemmas.List.{append-nil}
use Rattle.std.proofs.lemmas.Option.{slice_get_within, slice_get-get_or}
use Rattle.walk_model.specs.declared.route.Answer.{Answer}
use Rattle.walk_model.specs.declared.route.Route.{Route}
use Rattle.scene_model.specs.Routing.{task_of}
use Rattle.scene_model.specs.Scene.{Scene, edge_with}
use Rattle.channel_bundles.specs.declared.route.PhaseRoute.{PhaseRoute}
use Rattle.nudge_phases.specs.Raw.{AreRawRoutes, IsRawRoute, routed, with_number}
use Rattle.nudge_phases.proofs.Answered.{IsAnswered, answered_at, routed_more}
use Rattle.nudge_phases.proofs.RawReady.{few_points}
use Rattle.nudge_phases.proofs.Zips.{zip_push}
use Rattle.nudge_phases.proofs.raw.raw_routes.Goals as goal
use Rattle.nudge_phases.proofs.raw.raw_routes.Goals.{in-Some+in_ok-raw_route+in_ok-push, in_default}

starts : (s : Scene) (number : ℕ) (r : Route) → IsAnswered s number r → IsSomeAnd (edge_with s number) (λ e. r.start < length (task_of s e).starts)
starts s number r a =
    subst (λ o. IsSomeAnd o (λ e. r.start < length (task_of s e).starts)) (sym a.known)
    (let h = slice_get_within (task_of s a.edge).starts a.triple.start a.first.legal.start a.first.legal.is_start in let e = a.route_of.start in omega (arith, h, e))

ends : (s : Scene) (number : ℕ) (r : Route) → IsAnswered s number r → IsSomeAnd (edge_with s number) (λ e. r.end < length (task_of s e).ends)
ends s number r a =
    subst (λ o. IsSomeAnd o (λ e. r.end < length (task_of s e).ends)) (sym a.known)
    (let h = slice_get_within (task_of s a.edge).ends a.triple.end a.first.legal.end a.first.legal.is_end in let e = a.route_of.end in omega (arith, h, e))

-- one more raw route stands beside one more route
one_more : (s : Scene) (answers : List Answer) (i : ℕ) (a : Answer) (r : Route) (raw new : List PhaseRoute) (made : PhaseRoute) → i < length answers → a ≡ get_or answers i a → a.route ≡ Some r →
    AreRawRoutes s (take i answers) raw → IsRawRoute s a.edge r made → new ≡ raw ++ made ∷ [] → AreRawRoutes s (take (i + 1) answers) new
one_more s answers i a r raw new made h is has so of e =
    let R = λ (p : ℕ × Route) (q : PhaseRoute). IsRawRoute s p.0 p.1 q in
    let more : routed (take (i + 1) answers) ≡ routed (take i answers) ++ with_number a.edge (Some r) =
    routed_more answers i a h is ∙ ap (λ o. routed (take i answers) ++ with_number a.edge o) has in
    subst (λ ps. AllZip R ps new) (sym more) (subst (AllZip R (routed (take i answers) ++ with_number a.edge (Some r))) (sym e) (zip_push R (routed (take i answers)) raw (a.edge, r) made so of))

none_more : (s : Scene) (answers : List Answer) (i : ℕ) (a : Answer) (raw new : List PhaseRoute) → i < length answers → a ≡ get_or answers i a → a.route ≡ None →
    AreRawRoutes s (take i answers) raw → new ≡ raw → AreRawRoutes s (take (i + 1) answers) new
none_more s answers i a raw new h is none so e =
    let R = λ (p : ℕ × Route) (q : PhaseRoute). IsRawRoute s p.0 p.1 q in
    let same : routed (take (i + 1) answers) ≡ routed (take i answers) =
    routed_more answers i a h is ∙ ap (λ o. routed (take i answers) ++ with_number a.edge o) none ∙ append-nil (routed (take i answers)) in
    subst (λ ps. AllZip R ps new) (sym same) (subst (AllZip R (routed (take i answers))) (sym e) so)

pub raw_route-requires-clause-start : goal.raw_route-requires-clause-start
raw_route-requires-clause-start c =
    let a = c.answer-item.result in
    starts c.args.scene.now a.edge c.in-Some.route (answered_at c.args.scene.now c.args.answers.now c.requires.valid c.requires.answers c.loop-answer.answer-index a c.in-Some.route
    (slice_get-get_or c.args.answers.now c.loop-answer.answer-index a c.loop-answer-test.true ∙ ap Some (sym c.answer-item.is)) c.in-Some.is)

pub raw_route-requires-clause-end : goal.raw_route-requires-clause-end
raw_route-requires-clause-end c =
    let a = c.answer-item.result in
    ends c.args.scene.now a.edge c.in-Some.route (answered_at c.args.scene.now c.args.answers.now c.requires.valid c.requires.answers c.loop-answer.answer-index a c.in-Some.route
    (slice_get-get_or c.args.answers.now c.loop-answer.answer-index a c.loop-answer-test.true ∙ ap Some (sym c.answer-item.is)) c.in-Some.is)

pub raw_route-requires-clause-few : goal.raw_route-requires-clause-few
raw_route-requires-clause-few c =
    let a = c.answer-item.result in
    few_points c.args.scene.now c.requires.valid a.edge c.in-Some.route (answered_at c.args.scene.now c.args.answers.now c.requires.valid c.requires.answers c.loop-answer.answer-index a c.in-Some.route
    (slice_get-get_or c.args.answers.now c.loop-answer.answer-index a c.loop-answer-test.true ∙ ap Some (sym c.answer-item.is)) c.in-Some.is)

pub loop-answer-preserved : goal.loop-answer-preserved
loop-answer-preserved c =
    let s = c.args.scene.now in
    let answers = c.args.answers.now in
    let i = c.loop-answer.answer-index in
    let a = c.answer-item.result in
    elim c.match-answer.branch [
      | in-Some+in_ok-raw_route+in_ok-push w ↦
          one_more s answers i a w.in-Some.route c.loop-answer.raw.items _ w.in_ok-raw_route.field-0 c.loop-answer-test.true c.answer-item.is w.in-Some.is
          c.loop-answer.invariant w.in_ok-raw_route.ensures (ap (λ q. q.items) w.raw-is ∙ w.in_ok-push.ensures.items)
      | in_default w ↦ none_more s answers i a c.loop-answer.raw.items _ c.loop-answer-test.true c.answer-item.is w.in_default.is c.loop-answer.invariant (ap (λ q. q.items) w.raw-is)
    ]
