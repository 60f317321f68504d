-- The law is a lemma: `one_list_of_bundles`.
use Rattle.nudge_phases.proofs.OneOfEach.OneBundles.{one_list_of_bundles}
use Rattle.nudge_phases.proofs.phase_laws.one_list_of_bundles.Goals as goal

pub returns : goal.returns
returns c = λ solids routes way nudge found others one two good edges solvable. one_list_of_bundles solids routes way nudge good edges found others one two solvable
