-- The law is a lemma: `nudged_is_legal`.
use Rattle.nudge_phases.proofs.BothPhases.NudgedLegal.{nudged_is_legal}
use Rattle.nudge_phases.proofs.phase_laws.nudged_lines_are_legal.Goals as goal

pub returns : goal.returns
returns c = nudged_is_legal
