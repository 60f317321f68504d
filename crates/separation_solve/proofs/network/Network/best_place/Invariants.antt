-- What the loop of `Network::best_place` keeps.
use Rattle.separation_solve.proofs.Blocks.Mean.{MeanSoFar}
use Rattle.separation_solve.proofs.network.Network.best_place.Given as goal

abbrev pub invariant-loop-item : goal.invariant-loop-item
invariant-loop-item l = MeanSoFar l.self l.block l.item l.weight l.moment
