-- The runs of the way of the routes so far are there.
use Rattle.std.proofs.Common.{◌≡◌, take}
use Rattle.std.specs.Prelude.{All}
use Rattle.channel_bundles.specs.Route.{runs_of_way}
use Rattle.channel_bundles.specs.Placed.{IsPlaced, pairs_of}
use Rattle.channel_bundles.proofs.channel.runs_of.Given as goal

abbrev pub invariant-loop-at : goal.invariant-loop-at
invariant-loop-at l = All (IsPlaced l.walls.solids.now l.routes) l.placed.items × (pairs_of l.placed.items ≡ runs_of_way l.way (take l.at l.routes))
