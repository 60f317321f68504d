-- What is written of a scene's shared paths and crossings.
use Rattle.std.specs.Prelude.{◌≡◌, ℕ, List, ◌++◌, length}
use Rattle.walk_model.specs.declared.route.Answer.{Answer}
use Rattle.scene_model.specs.Answers.{AreAnswers}
use Rattle.scene_model.specs.Scene.{Scene, connectors}
use Rattle.scene_model.specs.Valid.{IsValid}
use Rattle.shared_paths.specs.declared.path.SharedPath.{SharedPath}
use Rattle.shared_paths.specs.Listed.{AreSharedPaths}
use Rattle.route_session.specs.Shares.{CountsCrossings, raw_runs}
use Rattle.report_text.specs.Outcome.{Outcome, counted}
use Rattle.report_text.specs.Shared.{crossings_line, shared_lines}
use Rattle.report_text.specs.declared.status.Status.TheVariants.{Done}

-- the lines on the paths that the right routes of the scene share, and the line on the crossings of its nudged lines
pub record SharesPaths (s : Scene) (text : List ℕ) : Type 0 where
  pub answers : List Answer
  pub right : AreAnswers s answers
  pub paths : List SharedPath
  pub are_paths : AreSharedPaths (raw_runs answers) paths
  pub crossings : ℕ
  pub crossed : CountsCrossings s answers crossings
  pub is_text : text ≡ shared_lines paths ++ crossings_line crossings

-- these lines are the outcome, for which each connector is searched once
pub record ListsPaths (s : Scene) (o : Outcome) : Type 0 where
  pub text : List ℕ
  pub shares : SharesPaths s text
  pub outcome : o ≡ counted Done text (length (connectors s))

-- a valid scene has one such text at most
abbrev pub HaveOneText : Type 0
HaveOneText = (s : Scene) (text other : List ℕ) → IsValid s → SharesPaths s text → SharesPaths s other → text ≡ other
