-- The law is proved from the walk that the runs make.
use Rattle.nudge_phases.proofs.AlongRuns.FromTheWalk.{from_walk}
use Rattle.nudge_phases.proofs.runs.legal_walks_are_legal_along_runs.Goals as goal

pub returns : goal.returns
returns c = λ solids via s runs e edge. from_walk solids via s runs e edge
