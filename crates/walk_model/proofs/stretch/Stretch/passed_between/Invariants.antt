-- The checkpoints passed so far.
use Rattle.walk_model.proofs.Checkpoints.Along.{PassedSoFar}
use Rattle.walk_model.proofs.stretch.Stretch.passed_between.Given as goal

abbrev pub invariant-loop-passed : goal.invariant-loop-passed
invariant-loop-passed l = PassedSoFar l.self l.from l.to l.via l.place l.passed
