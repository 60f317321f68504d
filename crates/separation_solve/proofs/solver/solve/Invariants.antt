-- What the loop of `solve` keeps.
use Rattle.std.proofs.Common.{◌+◌, unsigned_abs}
use Rattle.separation_solve.specs.Block.{objective}
use Rattle.separation_solve.specs.Network.{IsNetworkOf, IsSound, items_of}
use Rattle.separation_solve.specs.Reach.{IsTable}
use Rattle.separation_solve.proofs.solver.solve.Given as goal

abbrev pub invariant-loop-reach : goal.invariant-loop-reach
invariant-loop-reach l = record {
  sound : IsSound l.network;
  of_bundle : IsNetworkOf l.bundle l.gap l.network;
  table : IsTable (items_of l.network + 1) l.reach;
}

abbrev pub decreases-loop-reach : goal.decreases-loop-reach
decreases-loop-reach l = unsigned_abs (objective l.network)
