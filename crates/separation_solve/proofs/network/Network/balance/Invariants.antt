-- What the loop of `Network::balance` keeps.
use Rattle.std.proofs.Common.{◌≡◌, ◌+◌, unsigned_abs}
use Rattle.separation_solve.specs.Network.{IsSameBundle, IsSound, items_of, total_size, upright_places}
use Rattle.separation_solve.specs.Reach.{IsTable}
use Rattle.separation_solve.proofs.network.Network.balance.Given as goal

abbrev pub invariant-loop-start : goal.invariant-loop-start
invariant-loop-start l = record {
  sound : IsSound l.self;
  same : IsSameBundle l.fn.self l.self;
  places : upright_places l.self ≡ upright_places l.fn.self;
  table : IsTable (items_of l.self + 1) l.reach;
}

abbrev pub decreases-loop-start : goal.decreases-loop-start
decreases-loop-start l = unsigned_abs (total_size l.self.excess.items)
