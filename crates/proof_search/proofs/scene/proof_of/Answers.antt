-- A connector is a problem on the scene's graph.
use Rattle.std.proofs.Common.{◌≡◌, Option, List, sym, subst}
use Rattle.std.specs.Prelude.{IfOk, IfSome, Contains}
use Rattle.plane_geom.specs.declared.rect.Solid.{Solid}
use Rattle.walk_model.specs.declared.task.Task.{Task}
use Rattle.move_model.specs.Problems.{IsProblem}
use Rattle.scene_model.specs.Routing.{floor_of, solids, task_of}
use Rattle.scene_model.specs.Scene.{connectors}
use Rattle.scene_model.specs.declared.edge.Edge.{Edge}
use Rattle.scene_store.proofs.Tasks.{is_connector}
use Rattle.proof_search.specs.Provers.{IsLeastFor}
use Rattle.proof_search.proofs.WholeScenes.Connectors.{is_problem, least_proof}
use Rattle.proof_search.proofs.scene.proof_of.Goals as goal
use Rattle.proof_search.proofs.scene.proof_of.Goals.{In_ok-task}

task_is : (c : In_ok-task) → c.in_ok-task.task ≡ task_of c.args.scene.now c.args.edge.now
task_is c = subst (λ (o : Option Edge). IfSome o (λ e. c.in_ok-task.task ≡ task_of c.args.scene.now e)) c.requires.is c.in_ok-task.ensures.ok

listed : (c : In_ok-task) → Contains (connectors c.args.scene.now) c.args.edge.now
listed c = is_connector c.args.scene.now c.args.edge.now.number c.args.edge.now c.requires.is c.requires.connector

pub proof-requires-clause-problem : goal.proof-requires-clause-problem
proof-requires-clause-problem c =
    let here = (goal.at.proof-requires-clause-problem c).In_ok-task in
    let s = c.args.scene.now in
    let f = c.args.prover.now.finder in
    let on = is_problem s c.args.edge.now f.arena.now c.valid.ensures (listed here) c.requires.stands in
    let on_solids = subst (λ (ss : List Solid). IsProblem (floor_of s) f.arena.now ss (task_of s c.args.edge.now)) (sym c.requires.solids) on in
    (floor_of s, subst (IsProblem (floor_of s) f.arena.now f.solids.now) (sym (task_is here)) on_solids)

pub returns-clause-least : goal.returns-clause-least
returns-clause-least c =
    let here = (goal.at.returns-clause-least c).In_ok-task in
    let s = c.args.scene.now in
    let e = c.args.edge.now in
    let f = c.args.prover.now.finder in
    let on_solids = subst (λ (ss : List Solid). IfOk c.proof.result (IsLeastFor f.arena.now ss c.in_ok-task.task)) c.requires.solids c.proof.ensures.least in
    let least = subst (λ (t : Task). IfOk c.proof.result (IsLeastFor f.arena.now (solids s) t)) (task_is here) on_solids in
    least_proof s e f.arena.now c.valid.ensures (listed here) c.requires.stands c.proof.result c.proof.ensures.edge least
