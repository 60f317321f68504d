-- One phase.
use Rattle.std.specs.Prelude.{◌≡◌, ℕ, ℤ, List, length, slice_get, Some}
use Rattle.plane_geom.specs.declared.point.Way.{Way}
use Rattle.plane_geom.specs.declared.rect.Solid.{Solid}
use Rattle.separation_model.specs.declared.bundle.Bundle.{Bundle}
use Rattle.separation_model.specs.declared.bundle.Solution.{Solution}
use Rattle.separation_model.specs.Certified.{IsAccepted}
use Rattle.separation_model.specs.Gap.{IsWidestGap}
use Rattle.separation_model.specs.Least.{IsLeast}
use Rattle.channel_bundles.specs.declared.route.PhaseRoute.{PhaseRoute}
use Rattle.channel_bundles.specs.declared.channel.RunBundle.{RunBundle}
use Rattle.channel_bundles.specs.Bundles.{AreBundles}
use Rattle.nudge_phases.specs.Moved.{IsMoved}

-- the solution is for the bundle's gap, its positions are least, and its multipliers show it
pub record IsSolutionOf (b : Bundle) (s : Solution) : Type 0 where
  pub gap : IsWidestGap b s.gap
  pub least : IsLeast b s.gap s.den.items s.pos.items
  pub accepted : IsAccepted b s

-- the phase of the way: there are bundles of its input and for each a solution, in their order, with multipliers that show it, and the routes have their runs where the solutions put them
pub record IsPhase (solids : List Solid) (before : List PhaseRoute) (way : Way) (nudge : ℤ) (after : List PhaseRoute) : Type 0 where
  pub found : List RunBundle
  pub solutions : List Solution
  pub bundles : AreBundles solids before way nudge found
  pub solved : length solutions ≡ length found
  pub each : (k : ℕ) (b : RunBundle) (s : Solution) → slice_get found k ≡ Some b → slice_get solutions k ≡ Some s → IsSolutionOf b.bundle s
  pub count : length after ≡ length before
  pub moved : (k : ℕ) (r s : PhaseRoute) → slice_get before k ≡ Some r → slice_get after k ≡ Some s → IsMoved way found solutions r s
