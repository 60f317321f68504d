-- The routes with which nudging begins.
use Rattle.std.specs.Prelude.{◌≡◌, ◌≢◌, ◌-◌, ◌≤◌, ◌<ℤ◌, List, length, All, AllPairs}
use Rattle.plane_geom.specs.declared.point.Way.{Way}
use Rattle.plane_geom.specs.declared.rect.Solid.{Solid}
use Rattle.plane_geom.specs.Floor.{Holds}
use Rattle.segment_order.specs.declared.run.Run.{Run}
use Rattle.segment_order.specs.Run.{run_at, line_of_run}
use Rattle.channel_bundles.specs.declared.route.PhaseRoute.{PhaseRoute}
use Rattle.channel_bundles.specs.Route.{IsPhaseRoute, runs_of_way}
use Rattle.separation_model.specs.Bundle.{most_items}
use Rattle.walk_model.specs.declared.task.Choice.{Choice}
use Rattle.walk_model.specs.Choice.{IsChoice}
use Rattle.walk_model.specs.Legal.{IsLegal}
use Rattle.nudge_phases.specs.LegalRuns.{walk_along}

-- the ports of the route lie on its first and on its last run
pub record HoldsPorts (route : PhaseRoute) : Type 0 where
  pub source : Holds (line_of_run (run_at route.runs.items 0)) route.anchors.source_port
  pub target : Holds (line_of_run (run_at route.runs.items (length route.runs.items - 1))) route.anchors.target_port

-- a route of a phase, with its ports on its end runs
pub record IsReady (route : PhaseRoute) : Type 0 where
  pub phase : IsPhaseRoute route
  pub ports : HoldsPorts route

-- routes of different edges, each of whose runs has some length
pub record AreRaw (raw : List PhaseRoute) : Type 0 where
  pub ready : All IsReady raw
  pub edges : AllPairs (λ r s. r.edge ≢ s.edge) raw
  pub long : All (λ (route : PhaseRoute). All (λ (r : Run). r.lo <ℤ r.hi) route.runs.items) raw

-- the walk along the runs of the route is legal, with some choices at its ports
pub record HasLegalWalk (solids : List Solid) (route : PhaseRoute) : Type 0 where
  pub start : Choice
  pub end : Choice
  pub is_start : IsChoice start
  pub is_end : IsChoice end
  pub source : start.port ≡ route.anchors.source_port
  pub target : end.port ≡ route.anchors.target_port
  pub legal : IsLegal solids route.anchors.via.items start (walk_along route.runs.items) end

-- at most the number of runs of each way that a bundle may have as items
abbrev pub HaveFewRuns : List PhaseRoute → Type 0
HaveFewRuns routes = (way : Way) → length (runs_of_way way routes) ≤ most_items

-- raw routes that nudging accepts
pub record AreWalked (solids : List Solid) (routes : List PhaseRoute) : Type 0 where
  pub raw : AreRaw routes
  pub legal : All (HasLegalWalk solids) routes
  pub few : HaveFewRuns routes
