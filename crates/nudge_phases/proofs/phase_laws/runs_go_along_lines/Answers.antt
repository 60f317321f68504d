-- Run by run.
use Rattle.nudge_phases.proofs.BothPhases.RawRuns.{walk_same, long_runs}
use Rattle.nudge_phases.proofs.phase_laws.runs_go_along_lines.Goals as goal

pub returns : goal.returns
returns c = record { walk = λ edge. walk_same edge 1; long = λ edge. long_runs edge 1 }
