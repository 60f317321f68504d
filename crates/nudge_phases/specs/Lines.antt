-- Both phases, and the lines that are written after them.
use Rattle.std.specs.Prelude.{◌≡◌, ℕ, ◌+◌, ℤ, List, length, slice_get, Some}
use Rattle.plane_geom.specs.declared.point.Way.TheVariants.{Vertical, Horizontal}
use Rattle.plane_geom.specs.declared.rect.Solid.{Solid}
use Rattle.walk_model.specs.declared.route.WrittenRoute.{WrittenRoute}
use Rattle.walk_model.specs.declared.task.Choice.{Choice}
use Rattle.walk_model.specs.Walk.{Walk}
use Rattle.walk_model.specs.Line.{Draws}
use Rattle.walk_model.specs.Cost.{runs}
use Rattle.walk_model.specs.Legal.{IsLegal}
use Rattle.walk_model.specs.Choice.{IsChoice}
use Rattle.channel_bundles.specs.declared.route.PhaseRoute.{PhaseRoute}
use Rattle.nudge_phases.specs.Phase.{IsPhase}
use Rattle.nudge_phases.specs.LegalRuns.{walk_along}

-- the line goes along the walk of the route, and has points exactly at both ends and where a run of the walk begins
pub record IsWrittenLine (route : PhaseRoute) (line : WrittenRoute) : Type 0 where
  pub edge : line.edge ≡ route.edge
  pub draws : Draws line.points (walk_along route.runs.items)
  pub corners : length line.points ≡ runs (walk_along route.runs.items).steps + 1

-- the lines that are written after phase x on the raw routes and phase y on its result
pub record IsNudged (solids : List Solid) (raw : List PhaseRoute) (nudge : ℤ) (lines : List WrittenRoute) : Type 0 where
  pub after_x : List PhaseRoute
  pub after_y : List PhaseRoute
  pub x : IsPhase solids raw Vertical nudge after_x
  pub y : IsPhase solids after_x Horizontal nudge after_y
  pub count : length lines ≡ length after_y
  pub written : (k : ℕ) (route : PhaseRoute) (line : WrittenRoute) → slice_get after_y k ≡ Some route → slice_get lines k ≡ Some line → IsWrittenLine route line

-- if the walk of a raw route is legal with two choices at its ports, so is the walk that its line draws
abbrev pub KeepsLegal : List Solid → List PhaseRoute → List WrittenRoute → Type 0
KeepsLegal solids raw lines = (k : ℕ) (route : PhaseRoute) (line : WrittenRoute) → slice_get raw k ≡ Some route → slice_get lines k ≡ Some line →
    (s e : Choice) → IsChoice s → IsChoice e → s.port ≡ route.anchors.source_port → e.port ≡ route.anchors.target_port →
    IsLegal solids route.anchors.via.items s (walk_along route.runs.items) e →
    (w : Walk) × Draws line.points w × IsLegal solids route.anchors.via.items s w e
