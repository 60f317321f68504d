-- The law is a lemma: `one_nudged`.
use Rattle.nudge_phases.proofs.BothPhases.OneNudged.{one_nudged}
use Rattle.nudge_phases.proofs.phase_laws.one_nudged.Goals as goal

pub returns : goal.returns
returns c = one_nudged
