-- A leg ends where the tour doubles back.
use Rattle.walk_laws.proofs.OnKeptLines.FirstWalks.{doublings_back}
use Rattle.walk_laws.proofs.laws.doublings_back_are_at_checkpoints.Goals as goal

pub returns : goal.returns
returns c = λ solids task t is_task first. doublings_back solids task t is_task first
