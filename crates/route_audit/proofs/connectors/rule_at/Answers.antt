-- The rules on the connector's task.
use Rattle.std.proofs.Common.{◌≡◌, ℕ, All, Ok, Err, Option, Result, sym, ap, subst, ◌∙◌}
use Rattle.std.specs.Prelude.{IfOk, IfSome}
use Rattle.plane_geom.specs.declared.floor.Floor.{Floor}
use Rattle.plane_geom.specs.declared.rect.Solid.{Solid}
use Rattle.plane_geom.specs.Rect.{RectIsOnSheet}
use Rattle.line_arena.specs.Stands.{StandsFor}
use Rattle.scene_model.specs.Routing.{floor_of, task_of}
use Rattle.std.specs.declared.alloc.AllocError.{AllocError}
use Rattle.scene_model.proofs.ForRouting.Floors.{floors_fit}
use Rattle.route_audit.specs.Audits.{IsBroken, IsJudged}
use Rattle.route_audit.proofs.Audited.{is_problem, judged}
use Rattle.route_audit.proofs.connectors.rule_at.Goals as goal

weaker : (r : Result (Option ℕ) AllocError) (P Q : Option ℕ → Type 0) → ((o : Option ℕ) → P o → Q o) → IfOk r P → IfOk r Q
weaker (Ok o) P Q f h = f o h
weaker (Err e) P Q f h = tt

pub new-requires : goal.new-requires
new-requires c =
    let s = c.args.scene.now in
    let is = c.as_slice-solids.ensures ∙ ap (λ (f : Floor). f.solids) (c.floor.ensures ∙ c.requires.graph) in
    subst (All (λ (t : Solid). RectIsOnSheet t.rect)) (sym is) (λ k d lt. ((floors_fit s c.valid.ensures).solids k d lt).on_sheet)

pub new-requires-2-clause-problem : goal.new-requires-2-clause-problem
new-requires-2-clause-problem c =
    let s = c.args.scene.now in
    let e = c.args.edge.now in
    let g = c.args.graph.now in
    let is : c.in_ok-task.task ≡ task_of s e =
    subst (λ o. IfSome o (λ d. c.in_ok-task.task ≡ task_of s d)) c.requires.connector.known c.in_ok-task.ensures.ok in
    let solids = c.as_slice-solids.ensures ∙ ap (λ f. f.solids) c.floor.ensures in (
      floor_of s,
      is_problem s e c.valid.ensures c.requires.connector.listed g.floor c.arena.result.now _ _ c.requires.graph
          c.arena.ensures.stands solids is,
    )

pub returns : goal.returns
returns c =
    let s = c.args.scene.now in
    let e = c.args.edge.now in
    let g = c.args.graph.now in
    let p = c.in_ok-problem.problem in
    let is : p.task.now ≡ task_of s e =
    c.in_ok-problem.ensures.task ∙ subst (λ o. IfSome o (λ d. c.in_ok-task.task ≡ task_of s d)) c.requires.connector.known c.in_ok-task.ensures.ok in
    let solids = c.in_ok-problem.ensures.solids ∙ c.as_slice-solids.ensures ∙ ap (λ f. f.solids) c.floor.ensures in
    let stands = subst (StandsFor g.floor) (sym c.in_ok-problem.ensures.arena) c.arena.ensures.stands in
    let problem = is_problem s e c.valid.ensures c.requires.connector.listed g.floor p.arena.now p.solids.now p.task.now c.requires.graph
    stands solids is in
    let proof = c.args.proof.now in
    weaker c.broken_rule.result _ (IsJudged s e proof)
    (λ o broken. judged s e proof p.task.now o c.if-proof-edge.false is
    (subst (λ rs. IsBroken (floor_of s) p.task.now proof.claim rs o) c.as_slice.ensures (broken (floor_of s) problem))) c.broken_rule.ensures
