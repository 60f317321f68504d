-- The runs so far are joined.
use Rattle.std.proofs.Common.{◌≡◌, ◌≢◌, ℕ, ◌+◌, ◌<◌}
use Rattle.segment_order.specs.Run.{end_of_run, run_at, start_of_run}
use Rattle.nudge_tests.proofs.phases.checks.are_joined.Given as goal

abbrev pub invariant-loop-k : goal.invariant-loop-k
invariant-loop-k l = record {
  joined : (j : ℕ) → j + 1 < l.k → end_of_run (run_at l.runs j) ≡ start_of_run (run_at l.runs (j + 1));
  turns : (j : ℕ) → j + 1 < l.k → (run_at l.runs j).heading ≢ (run_at l.runs (j + 1)).heading;
}
