-- What the loop of `press_on` keeps.
use Rattle.separation_solve.proofs.Starting.Pressing.{IsPressed}
use Rattle.separation_solve.proofs.start.press_on.Given as goal

abbrev pub invariant-loop-index : goal.invariant-loop-index
invariant-loop-index l = IsPressed l.fn.gap l.fn.places l.by_left l.index l.places
