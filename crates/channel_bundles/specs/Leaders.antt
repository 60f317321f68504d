-- Routes with the same runs but for their edges. No public clause cites this module.
use Rattle.std.specs.Prelude.{◌≡◌, ℕ, Option, Some, None, List, [], map, slice_get}
use Rattle.segment_order.specs.declared.run.Run.{Run}
use Rattle.channel_bundles.specs.declared.route.PhaseRoute.{PhaseRoute}

-- the run as one of edge 0
abbrev pub without_edge : Run → Run
without_edge r = record r { edge = 0 }

-- two routes have the same runs but for their edges
abbrev pub GoAlike : List Run → List Run → Type 0
GoAlike a b = map without_edge a ≡ map without_edge b

-- the runs of the route, if there is one
abbrev pub runs_if : Option PhaseRoute → List Run
runs_if None = []
runs_if (Some route) = route.runs.items

-- the runs of the route at the index; past the end, none
abbrev pub runs_at : List PhaseRoute → ℕ → List Run
runs_at routes at = runs_if (slice_get routes at)
