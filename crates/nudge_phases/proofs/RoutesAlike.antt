-- Routes with the same contents.
use Rattle.std.specs.Prelude.{◌≡◌, ℕ, List, Some, length, slice_get}
use Rattle.channel_bundles.specs.declared.route.PhaseRoute.{PhaseRoute}

-- the routes are of one edge, with the same weight, runs, ports and checkpoints
pub record IsRouteAlike (a b : PhaseRoute) : Type 0 where
  pub edge : a.edge ≡ b.edge
  pub weight : a.weight ≡ b.weight
  pub runs : a.runs.items ≡ b.runs.items
  pub source : a.anchors.source_port ≡ b.anchors.source_port
  pub target : a.anchors.target_port ≡ b.anchors.target_port
  pub via : a.anchors.via.items ≡ b.anchors.via.items

-- the lists have the same length, and their routes have the same contents one by one
pub record AreRoutesAlike (routes others : List PhaseRoute) : Type 0 where
  pub count : length routes ≡ length others
  pub each : (k : ℕ) (r s : PhaseRoute) → slice_get routes k ≡ Some r → slice_get others k ≡ Some s → IsRouteAlike r s
