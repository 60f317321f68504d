-- What the loop of `turn_links` keeps.
use Rattle.separation_solve.specs.Network.{turned_link}
use Rattle.separation_solve.proofs.Lists.Turning.{IsTurned}
use Rattle.separation_solve.proofs.mirror.turn_links.Given as goal

abbrev pub invariant-loop-index : goal.invariant-loop-index
invariant-loop-index l = IsTurned turned_link l.fn.links l.links l.index
