-- The law is a lemma: `have_few_points`.
use Rattle.nudge_phases.proofs.FewPoints.{have_few_points}
use Rattle.nudge_phases.proofs.laws.nudged_lines_are_short.Goals as goal

pub returns : goal.returns
returns c = have_few_points
