-- The cause of the task that the scene gives leaves no walk.
use Rattle.std.proofs.Common.{◌∙◌}
use Rattle.route_causes.proofs.NoWalk.{no_walk_at}
use Rattle.route_causes.proofs.cause.cause_of.Goals as goal

pub returns-clause-no_walk : goal.returns-clause-no_walk
returns-clause-no_walk c =
    no_walk_at c.args.scene.now c.args.number c.as_slice.result.now c.in_ok-task.task c.cause_among.result c.valid.ensures c.requires
    (c.as_slice.ensures ∙ c.in_ok-solids.ensures) c.in_ok-task.ensures.ok c.cause_among.ensures
