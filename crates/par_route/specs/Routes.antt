-- The answers of many tasks.
use Rattle.std.specs.Prelude.{◌≡◌, List, Option}
use Rattle.std.specs.List.{AllZip}
use Rattle.plane_geom.specs.declared.floor.Floor.{Floor}
use Rattle.plane_geom.specs.declared.rect.Solid.{Solid}
use Rattle.line_arena.specs.Arena.{Arena}
use Rattle.move_model.specs.Problems.{IsProblem}
use Rattle.walk_model.specs.declared.task.Task.{Task}
use Rattle.walk_model.specs.declared.route.Route.{Route}
use Rattle.walk_model.specs.Answers.{IsAnswer}

-- the task may be searched on the arena with the solids
abbrev pub MayBeSearched : Arena → List Solid → Task → Type 0
MayBeSearched arena solids task = (floor : Floor) × IsProblem floor arena solids task

-- the right answers of the tasks, in order
abbrev pub AreAnswers : List Solid → List Task → List (Option Route) → Type 0
AreAnswers solids tasks answers = AllZip (IsAnswer solids) tasks answers

-- any two lists of right answers of the tasks are equal
abbrev pub HaveOneList : Type 0
HaveOneList =
    (solids : List Solid) (tasks : List Task) (these those : List (Option Route))
    → AreAnswers solids tasks these → AreAnswers solids tasks those → these ≡ those
