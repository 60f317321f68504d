-- A task without choices and checkpoints, which has no legal walk.
use Rattle.std.specs.Prelude.{[]}
use Rattle.walk_model.specs.declared.task.Task.{Task}

-- a task whose bends cost nothing
abbrev pub idle_task : Task
idle_task = record { starts = []; ends = []; via = []; penalty = 0 }
