-- The order of the routes.
use Rattle.std.specs.Prelude.{◌<◌, List, AllPairs}
use Rattle.channel_bundles.specs.declared.route.PhaseRoute.{PhaseRoute}

-- the numbers of the edges rise
abbrev pub EdgesRise : List PhaseRoute → Type 0
EdgesRise routes = AllPairs (λ r s. r.edge < s.edge) routes
