-- The corners of the runs before this one are there.
use Rattle.nudge_phases.proofs.Cornering.{AreCornersSoFar}
use Rattle.nudge_phases.proofs.lines.written.Given as goal

abbrev pub invariant-loop-run : goal.invariant-loop-run
invariant-loop-run l = AreCornersSoFar l.route.runs.items l.points l.at l.heading l.run-index
