-- What the loop of `Network::sweep` keeps.
use Rattle.std.proofs.Common.{◌≡◌}
use Rattle.separation_solve.specs.Network.{IsSound, KeepsBundle, items_of}
use Rattle.separation_solve.specs.Sweep.{IsBudget}
use Rattle.separation_solve.proofs.network.Network.sweep.Given as goal

abbrev pub invariant-loop-index : goal.invariant-loop-index
invariant-loop-index l = record {
  sound : IsSound l.self;
  budget : IsBudget l.self l.left;
  bundle : KeepsBundle l.fn.self l.self;
  places : l.self.places ≡ l.fn.self.places;
  items : l.items ≡ items_of l.self;
}
