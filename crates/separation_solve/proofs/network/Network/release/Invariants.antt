-- What the loop of `Network::release` keeps.
use Rattle.separation_solve.proofs.Networks.Forces.{IsReleasing}
use Rattle.separation_solve.proofs.network.Network.release.Given as goal

abbrev pub invariant-loop-item : goal.invariant-loop-item
invariant-loop-item l = IsReleasing l.fn.self l.self l.item
