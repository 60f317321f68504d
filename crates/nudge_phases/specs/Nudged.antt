-- The result of nudging the raw routes of a scene, and the properties of its lines.
use Rattle.std.specs.Prelude.{◌≡◌, ◌≤◌, ℕ, List, Some, All, length}
use Rattle.std.specs.List.{AllZip}
use Rattle.walk_model.specs.declared.route.Answer.{Answer}
use Rattle.walk_model.specs.declared.route.Route.{Route}
use Rattle.walk_model.specs.declared.route.WrittenRoute.{WrittenRoute}
use Rattle.walk_model.specs.Line.{Draws}
use Rattle.walk_model.specs.Order.{IsLegalTriple}
use Rattle.walk_model.specs.Walk.{Walk}
use Rattle.scene_model.specs.declared.edge.Edge.{Edge}
use Rattle.scene_model.specs.Answers.{AreAnswers}
use Rattle.scene_model.specs.Scene.{Scene, edge_with}
use Rattle.scene_model.specs.Routing.{solids, task_of}
use Rattle.scene_model.specs.Valid.{IsValid}
use Rattle.channel_bundles.specs.declared.route.PhaseRoute.{PhaseRoute}
use Rattle.nudge_phases.specs.Apart.{KeepsApart}
use Rattle.nudge_phases.specs.Lines.{IsNudged}
use Rattle.nudge_phases.specs.Raw.{AreRawRoutes, routed}

-- the lines are those of both phases on the raw routes of the answers
pub record IsNudgedScene (s : Scene) (answers : List Answer) (lines : List WrittenRoute) : Type 0 where
  pub raw : List PhaseRoute
  pub are_raw : AreRawRoutes s answers raw
  pub nudged : IsNudged (solids s) raw s.settings.nudge lines

-- the scene routed alone: the first legal walks of its connectors, and their nudged lines
pub record AreLines (s : Scene) (answers : List Answer) (lines : List WrittenRoute) : Type 0 where
  pub right : AreAnswers s answers
  pub nudged : IsNudgedScene s answers lines

-- the line of the edge with the number draws a walk that is legal with the choices of its route
pub record IsLegalNudgedLine (s : Scene) (number : ℕ) (route : Route) (line : WrittenRoute) : Type 0 where
  pub edge : Edge
  pub is_edge : edge_with s number ≡ Some edge
  pub walk : Walk
  pub draws : Draws line.points walk
  pub legal : IsLegalTriple (solids s) (task_of s edge) (record { start = route.start; walk = walk; end = route.end })

-- each line is legal for its answer, among those that have a route
abbrev pub AreLegalNudgedLines : Scene → List Answer → List WrittenRoute → Type 0
AreLegalNudgedLines s answers lines = AllZip (λ p line. IsLegalNudgedLine s p.0 p.1 line) (routed answers) lines

-- there are few routes, each has few points, and a nudged line has at most as many as its route
pub record HasFewPoints (answers : List Answer) (lines : List WrittenRoute) : Type 0 where
  pub count : length (routed answers) ≤ 512
  pub routes : All (λ p. length p.1.points ≤ 3289603) (routed answers)
  pub short : AllZip (λ p line. length line.points ≤ length p.1.points) (routed answers) lines

-- the law: so it is for right answers of a scene
abbrev pub HaveFewPoints : Type 0
HaveFewPoints = (s : Scene) (answers : List Answer) (lines : List WrittenRoute) →
    IsValid s → AreAnswers s answers → IsNudgedScene s answers lines → HasFewPoints answers lines

-- right answers of a scene have at most one list of nudged lines
abbrev pub HaveOneNudged : Type 0
HaveOneNudged = (s : Scene) (answers : List Answer) (lines others : List WrittenRoute) →
    IsValid s → AreAnswers s answers → IsNudgedScene s answers lines → IsNudgedScene s answers others → lines ≡ others

-- each nudged line of right answers is legal for its connector
abbrev pub NudgedScenesAreLegal : Type 0
NudgedScenesAreLegal = (s : Scene) (answers : List Answer) (lines : List WrittenRoute) →
    IsValid s → AreAnswers s answers → IsNudgedScene s answers lines → AreLegalNudgedLines s answers lines

-- both phases on right answers meet every separation of their runs
abbrev pub NudgedScenesKeepApart : Type 0
NudgedScenesKeepApart = (s : Scene) (answers : List Answer) (lines : List WrittenRoute) →
    IsValid s → AreAnswers s answers → (n : IsNudgedScene s answers lines) → KeepsApart n.nudged.x × KeepsApart n.nudged.y
