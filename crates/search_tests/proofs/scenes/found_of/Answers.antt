-- Calls accept the task of a connector, and the floor of its scene is a floor of it.
use Rattle.std.proofs.Common.{ℕ, ◌≡◌, ◌≢◌, Option, Some, None, refl, sym, subst}
use Rattle.std.specs.Prelude.{IfSome, IsSomeAnd}
use Rattle.plane_geom.specs.declared.floor.Floor.{Floor}
use Rattle.walk_model.specs.declared.task.Task.{Task}
use Rattle.walk_model.specs.Floors.{IsFloorOf}
use Rattle.walk_model.specs.Legal.{IsTask}
use Rattle.scene_model.specs.declared.edge.Edge.{Edge}
use Rattle.scene_model.specs.Routing.{floor_of, task_of}
use Rattle.scene_model.specs.Scene.{Scene, edge_with}
use Rattle.scene_model.specs.Valid.{IsValid}
use Rattle.scene_model.proofs.ForRouting.Floors.{floors_hold_tasks}
use Rattle.scene_store.proofs.Tasks.{is_connector}
use Rattle.search_tests.proofs.scenes.found_of.Goals as goal

record IsConnectors (floor : Floor) (task : Task) : Type 0 where
  is_task : IsTask task
  floor_of : IsFloorOf floor task

of_connector : (s : Scene) (number : ℕ) (floor : Floor) (task : Task) → IsValid s → floor ≡ floor_of s
    → IsSomeAnd (edge_with s number) (λ e. e.from ≢ e.to) → IfSome (edge_with s number) (λ e. task ≡ task_of s e) → IsConnectors floor task
of_connector s number floor task valid is there asks = by (edge_with s number) refl there asks
  where
    by : (o : Option Edge) → edge_with s number ≡ o → IsSomeAnd o (λ e. e.from ≢ e.to) → IfSome o (λ e. task ≡ task_of s e) → IsConnectors floor task
    by None known differ same = absurd differ
    by (Some e) known differ same =
        let holds = floors_hold_tasks s e valid (is_connector s number e known differ) in
        record {
          is_task = subst IsTask (sym same) holds.task.is_task;
          floor_of = subst (λ f. IsFloorOf f task) (sym is) (subst (IsFloorOf (floor_of s)) (sym same) holds.floor);
        }

pub found_on-requires-clause-task : goal.found_on-requires-clause-task
found_on-requires-clause-task c =
    (of_connector c.args.scene.now c.args.number c.in_ok-floor.floor c.in_ok-task.task c.valid.ensures c.in_ok-floor.ensures.floor c.requires c.in_ok-task.ensures.ok).is_task

pub found_on-requires-clause-floor_of : goal.found_on-requires-clause-floor_of
found_on-requires-clause-floor_of c =
    (of_connector c.args.scene.now c.args.number c.in_ok-floor.floor c.in_ok-task.task c.valid.ensures c.in_ok-floor.ensures.floor c.requires c.in_ok-task.ensures.ok).floor_of
