-- What the loop of `Reach::clear` keeps.
use Rattle.separation_solve.proofs.Searches.Searching.{IsClearing}
use Rattle.separation_solve.proofs.reach.Reach.clear.Given as goal

abbrev pub invariant-loop-index : goal.invariant-loop-index
invariant-loop-index l = IsClearing l.fn.self l.self l.index
