-- The runs so far are of the edge, and numbered.
use Rattle.std.proofs.Common.{◌≡◌, ℕ, ◌+◌, ◌<◌}
use Rattle.segment_order.specs.Run.{IsRun, run_at}
use Rattle.nudge_tests.proofs.phases.checks.are_numbered.Given as goal

abbrev pub invariant-loop-k : goal.invariant-loop-k
invariant-loop-k l = record {
  each : (j : ℕ) → j < l.k → IsRun (run_at l.runs j);
  edges : (j : ℕ) → j < l.k → (run_at l.runs j).edge ≡ l.edge;
  places : (j : ℕ) → j < l.k → (run_at l.runs j).place ≡ j + 1;
}
