-- The checkpoints lie on the tour.
use Rattle.walk_laws.proofs.OnKeptLines.FirstWalks.{checkpoints}
use Rattle.walk_laws.proofs.laws.checkpoints_are_crossings.Goals as goal

pub returns : goal.returns
returns c = λ floor task t is_task on first. checkpoints floor task t is_task first on
