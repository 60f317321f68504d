-- The least of the origins so far.
use Rattle.std.proofs.Common.{◌≡◌, ◌≤◌, take}
use Rattle.search_problem.specs.Bounds.{least_bound_from, most_cost}
use Rattle.search_problem.proofs.problem.least_bound.Given as goal

abbrev pub invariant-loop-origin : goal.invariant-loop-origin
invariant-loop-origin l = record {
  exact : l.least ≡ least_bound_from l.penalty (take l.origin-index l.origins) l.to l.heading;
  small : l.least ≤ most_cost;
}
