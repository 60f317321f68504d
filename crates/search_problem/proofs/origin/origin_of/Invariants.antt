-- What is found covers the entries so far in the direction.
use Rattle.std.proofs.Common.{take}
use Rattle.search_problem.proofs.origin.origin_of.Given as goal
use Rattle.search_problem.proofs.Origins.{IsFound}

abbrev pub invariant-loop-entry : goal.invariant-loop-entry
invariant-loop-entry l = IsFound l.found l.dir (take l.entry-index l.entries)
