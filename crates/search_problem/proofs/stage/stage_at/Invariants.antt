-- The number goes up as long as the next checkpoint stands at the point.
use Rattle.std.proofs.Common.{◌≡◌, ◌<◌, ◌≤◌, ◌-◌, ℕ, Some, length}
use Rattle.std.specs.Prelude.{slice_get}
use Rattle.search_problem.proofs.stage.stage_at.Given as goal

abbrev pub invariant-loop-at : goal.invariant-loop-at
invariant-loop-at l = record {
  from : l.stage ≤ l.reached;
  within : l.reached ≤ length l.via;
  passed : (i : ℕ) → l.stage ≤ i → i < l.reached → slice_get l.via i ≡ Some l.at;
}

abbrev pub decreases-loop-at : goal.decreases-loop-at
decreases-loop-at l = length l.via - l.reached
