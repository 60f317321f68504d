-- What the loop of `draw_back` keeps.
use Rattle.separation_solve.proofs.Starting.Pressing.{DrawnBack}
use Rattle.separation_solve.proofs.start.draw_back.Given as goal

abbrev pub invariant-loop-index : goal.invariant-loop-index
invariant-loop-index l = DrawnBack l.latest l.fn.places l.index l.places
