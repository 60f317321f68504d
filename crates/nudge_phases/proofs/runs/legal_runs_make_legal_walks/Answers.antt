-- The law is proved by the stubs and the runs between them.
use Rattle.nudge_phases.proofs.AlongRuns.ToTheWalk.{legal_by_stubs}
use Rattle.nudge_phases.proofs.runs.legal_runs_make_legal_walks.Goals as goal

pub returns : goal.returns
returns c = λ solids via s runs e edge are hs he legal. legal_by_stubs solids via s runs e edge are hs he legal
