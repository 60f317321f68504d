-- What the loop of `chain` keeps.
use Rattle.std.proofs.Common.{All}
use Rattle.separation_solve.specs.Start.{IsForward}
use Rattle.nudge_tests.proofs.solutions.chain.Given as goal

abbrev pub invariant-loop-right : goal.invariant-loop-right
invariant-loop-right l = All (IsForward l.count) l.rules.items
