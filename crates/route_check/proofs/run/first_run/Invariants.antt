-- All the segments so far are of the first run.
use Rattle.route_check.proofs.Segments.Runs.{FirstSoFar}
use Rattle.route_check.proofs.run.first_run.Given as goal

abbrev pub invariant-loop-to : goal.invariant-loop-to
invariant-loop-to l = FirstSoFar l.fn.first l.rest l.to-index l.from l.run
