-- The law is a lemma: `solvable`.
use Rattle.nudge_phases.proofs.EachPhase.Solvable.{solvable}
use Rattle.nudge_phases.proofs.phase_laws.bundles_may_be_solved.Goals as goal

pub returns : goal.returns
returns c = solvable
