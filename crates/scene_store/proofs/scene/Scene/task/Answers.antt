-- A search accepts the task of a connector of a valid scene.
use Rattle.std.proofs.Common.{◌≢◌, subst, sym}
use Rattle.std.specs.Prelude.{IfOk, IsSomeAnd}
use Rattle.walk_model.specs.Floors.{IsTaskOn}
use Rattle.scene_model.specs.Scene.{Scene, edge_with}
use Rattle.scene_model.specs.Routing.{solids}
use Rattle.scene_store.proofs.Tasks.{task_fits}
use Rattle.scene_store.proofs.scene.Scene.task.Goals as goal

pub returns-clause-task : goal.returns-clause-task
returns-clause-task c =
    subst (λ (s : Scene). IfOk c.task.result (IsTaskOn (solids s))) c.self.view_is
    (task_fits c.self.inside.parts c.args.number c.task.result c.self.invariant (subst (λ (s : Scene). IsSomeAnd (edge_with s c.args.number) (λ e. e.from ≢ e.to)) (sym c.self.view_is) c.requires) c.task.ensures)
