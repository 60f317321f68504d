-- The bundles so far are settled, and their runs are put.
use Rattle.nudge_phases.proofs.Settling.{AreSettledUpTo}
use Rattle.nudge_phases.proofs.solutions.settle_and_put_all.Given as goal

abbrev pub invariant-loop-run_bundle : goal.invariant-loop-run_bundle
invariant-loop-run_bundle l = AreSettledUpTo l.found l.run_bundle-index l.initial.routes l.routes
