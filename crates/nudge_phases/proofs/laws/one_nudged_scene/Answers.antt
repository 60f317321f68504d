-- The law is a lemma: `one_nudged_scene`.
use Rattle.nudge_phases.proofs.OneScene.{one_nudged_scene}
use Rattle.nudge_phases.proofs.laws.one_nudged_scene.Goals as goal

pub returns : goal.returns
returns c = one_nudged_scene
