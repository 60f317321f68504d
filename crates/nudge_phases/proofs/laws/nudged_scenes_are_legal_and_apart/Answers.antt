-- The laws are lemmas: `scene_legal` and `scene_apart`.
use Rattle.nudge_phases.proofs.SceneLines.{scene_apart, scene_legal}
use Rattle.nudge_phases.proofs.laws.nudged_scenes_are_legal_and_apart.Goals as goal

pub returns-clause-legal : goal.returns-clause-legal
returns-clause-legal c s answers lines valid are nudged = scene_legal s answers valid are lines nudged

pub returns-clause-apart : goal.returns-clause-apart
returns-clause-apart c s answers lines valid are nudged = scene_apart s answers valid are lines nudged
