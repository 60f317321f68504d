-- The bundles of a phase, with few rules that stand for all.
use Rattle.std.specs.Prelude.{◌≡◌, ℕ, ◌<◌, ℤ, List, [], ◌∷◌, length, All, slice_index_or}
use Rattle.plane_geom.specs.declared.point.Way.{Way}
use Rattle.plane_geom.specs.declared.rect.Solid.{Solid}
use Rattle.separation_model.specs.declared.bundle.Rule.{Rule}
use Rattle.separation_model.specs.Bundle.{IsBundle}
use Rattle.separation_model.specs.Chains.{IsReducedBundle}
use Rattle.channel_bundles.specs.declared.route.PhaseRoute.{PhaseRoute}
use Rattle.channel_bundles.specs.declared.channel.RunBundle.{RunBundle}
use Rattle.channel_bundles.specs.Bundles.{AreBundles}

-- the few rules are among all, in their order
pub data AreAmong : List Rule → List Rule → Type 0 where
  none : AreAmong [] []
  kept : (r : Rule) (few all : List Rule) → AreAmong few all → AreAmong (r ∷ few) (r ∷ all)
  left_out : (r : Rule) (few all : List Rule) → AreAmong few all → AreAmong few (r ∷ all)

-- the same bundle of the same runs, with some of its rules, whose chains stand for all
pub record IsFewOf (b few : RunBundle) : Type 0 where
  pub runs : few.runs.items ≡ b.runs.items
  pub reduced : IsReducedBundle b.bundle few.bundle
  pub order : AreAmong few.bundle.rules.items b.bundle.rules.items

-- the bundles of the phase, which a solver accepts, each with some of its rules, whose chains stand for all
pub record AreFewBundles (solids : List Solid) (routes : List PhaseRoute) (way : Way) (nudge : ℤ) (few : List RunBundle) : Type 0 where
  pub found : List RunBundle
  pub bundles : AreBundles solids routes way nudge found
  pub accepted : All (λ b. IsBundle b.bundle) found
  pub count : length few ≡ length found
  pub each : (k : ℕ) (d : RunBundle) → k < length found → IsFewOf (slice_index_or found k d) (slice_index_or few k d)
