-- The tasks so far are idle.
use Rattle.std.proofs.Common.{◌≡◌, All}
use Rattle.walk_model.specs.declared.task.Task.{Task}
use Rattle.search_tests.specs.Idle.{idle_task}
use Rattle.search_tests.proofs.pieces.idle_tasks.Given as goal

abbrev pub invariant-loop : goal.invariant-loop
invariant-loop l = All (λ (t : Task). t ≡ idle_task) l.tasks.items
