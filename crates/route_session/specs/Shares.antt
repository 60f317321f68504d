-- The runs of a session's routes and lines, and the crossings of its lines.
use Rattle.std.specs.Prelude.{◌≡◌, ℕ, List, map}
use Rattle.plane_geom.specs.declared.point.Point.{Point}
use Rattle.walk_model.specs.declared.route.Answer.{Answer}
use Rattle.walk_model.specs.declared.route.Route.{Route}
use Rattle.walk_model.specs.declared.route.WrittenRoute.{WrittenRoute}
use Rattle.segment_order.specs.Run.{runs_along}
use Rattle.scene_model.specs.Scene.{Scene}
use Rattle.shared_paths.specs.declared.path.EdgeRuns.{EdgeRuns}
use Rattle.shared_paths.specs.Crossings.{crossing_count}
use Rattle.nudge_phases.specs.Nudged.{IsNudgedScene}
use Rattle.nudge_phases.specs.Raw.{routed}

-- the runs of the edge's line through the corners
abbrev pub edge_runs : ℕ → List Point → EdgeRuns
edge_runs edge points = record { edge = edge; runs = runs_along edge 1 points }

-- the runs of the routes of the answers, before nudging
abbrev pub raw_runs : List Answer → List EdgeRuns
raw_runs answers = map (λ (p : ℕ × Route). edge_runs p.0 p.1.points) (routed answers)

-- the runs of written lines
abbrev pub line_runs : List WrittenRoute → List EdgeRuns
line_runs lines = map (λ (l : WrittenRoute). edge_runs l.edge l.points) lines

-- this is how often the nudged lines of the answers cross
pub record CountsCrossings (s : Scene) (answers : List Answer) (count : ℕ) : Type 0 where
  pub lines : List WrittenRoute
  pub nudged : IsNudgedScene s answers lines
  pub counted : count ≡ crossing_count (line_runs lines)
