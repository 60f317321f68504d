-- In the stages so far the exit is taken.
use Rattle.exit_spread.proofs.Searches.{TakenUpTo}
use Rattle.exit_spread.proofs.spread.Spread.take.Given as goal

abbrev pub invariant-loop-stage : goal.invariant-loop-stage
invariant-loop-stage l = TakenUpTo l.problem l.lists l.exit l.at l.initial.self l.self l.stage
