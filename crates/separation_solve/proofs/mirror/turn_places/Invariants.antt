-- What the loop of `turn_places` keeps.
use Rattle.separation_solve.specs.Network.{turned_place}
use Rattle.separation_solve.proofs.Lists.Turning.{IsTurned}
use Rattle.separation_solve.proofs.mirror.turn_places.Given as goal

abbrev pub invariant-loop-index : goal.invariant-loop-index
invariant-loop-index l = IsTurned turned_place l.fn.places l.places l.index
