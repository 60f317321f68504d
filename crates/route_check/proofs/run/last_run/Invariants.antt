-- The run is the last one of the segments so far.
use Rattle.std.proofs.Common.{ℕ}
use Rattle.route_check.proofs.Segments.Runs.{LastSoFar}
use Rattle.route_check.proofs.run.last_run.Given as goal

abbrev pub invariant-loop-to : goal.invariant-loop-to
invariant-loop-to l = (k : ℕ) × LastSoFar l.fn.first l.rest l.to-index k l.from l.run
