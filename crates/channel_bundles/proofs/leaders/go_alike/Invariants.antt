-- The runs before `k` are the same but for their edges.
use Rattle.std.proofs.Common.{◌≡◌, map, take}
use Rattle.channel_bundles.specs.Leaders.{without_edge}
use Rattle.channel_bundles.proofs.leaders.go_alike.Given as goal

abbrev pub invariant-loop-k : goal.invariant-loop-k
invariant-loop-k l = take l.k (map without_edge l.a) ≡ take l.k (map without_edge l.b)
