-- The runs of the way before `k` are added.
use Rattle.std.proofs.Common.{◌≡◌, ◌++◌, map, take}
use Rattle.std.specs.Prelude.{All}
use Rattle.channel_bundles.specs.Route.{of_way}
use Rattle.channel_bundles.specs.Placed.{IsPlaced, pairs_of}
use Rattle.channel_bundles.proofs.channel.add_runs.Given as goal

abbrev pub invariant-loop-k : goal.invariant-loop-k
invariant-loop-k l = All (IsPlaced l.walls.solids.now l.routes) l.placed.items
    × (pairs_of l.placed.items ≡ pairs_of l.initial.placed.items ++ map (λ r. (l.route, r)) (of_way l.way (take l.k l.route.runs.items)))
