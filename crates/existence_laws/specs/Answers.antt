-- There are answers, lists of stale connectors, and verdicts.
use Rattle.std.specs.Prelude.{ℕ, List, Option, Result}
use Rattle.plane_geom.specs.declared.point.Point.{Point}
use Rattle.plane_geom.specs.declared.rect.Solid.{Solid}
use Rattle.plane_geom.specs.declared.floor.Floor.{Floor}
use Rattle.plane_geom.specs.Floor.{IsFloor}
use Rattle.walk_model.specs.declared.task.Task.{Task}
use Rattle.walk_model.specs.declared.route.Answer.{Answer}
use Rattle.walk_model.specs.declared.route.Route.{Route}
use Rattle.walk_model.specs.Answers.{IsAnswer}
use Rattle.walk_model.specs.Floors.{IsFloorOf}
use Rattle.walk_model.specs.Legal.{IsTask}
use Rattle.route_check.specs.declared.verdict.Breach.{Breach}
use Rattle.route_check.specs.Verdict.{IsVerdict}
use Rattle.scene_model.specs.Scene.{Scene}
use Rattle.scene_model.specs.Valid.{IsValid}
use Rattle.scene_model.specs.Answers.{AreAnswers}
use Rattle.scene_model.specs.Stale.{AreStale}

-- the law: each task on a floor within the limits has an answer
abbrev pub TasksHaveAnswers : Type 0
TasksHaveAnswers = (floor : Floor) (task : Task) → IsFloor floor → IsTask task → IsFloorOf floor task → (answer : Option Route) × IsAnswer floor.solids task answer

-- the law: each valid scene has right answers
abbrev pub HaveAnswers : Type 0
HaveAnswers = (s : Scene) → IsValid s → (answers : List Answer) × AreAnswers s answers

-- the law: for right answers of one scene, another one has a list of stale connectors
abbrev pub HaveStaleLists : Type 0
HaveStaleLists = (old : Scene) (answers : List Answer) (new : Scene) → AreAnswers old answers → (numbers : List ℕ) × AreStale old answers new numbers

-- the law: each line has a verdict
abbrev pub HaveVerdicts : Type 0
HaveVerdicts = (solids : List Solid) (task : Task) (points : List Point) → (verdict : Result ℕ Breach) × IsVerdict solids task points verdict
