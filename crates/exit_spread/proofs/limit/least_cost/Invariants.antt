-- The least so far is no greater than at first.
use Rattle.std.proofs.Common.{◌≤◌}
use Rattle.search_problem.specs.Bounds.{most_cost}
use Rattle.exit_spread.proofs.limit.least_cost.Given as goal

abbrev pub invariant-loop-ending : goal.invariant-loop-ending
invariant-loop-ending l = l.least ≤ most_cost
