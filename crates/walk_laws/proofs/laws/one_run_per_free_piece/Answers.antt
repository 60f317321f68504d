-- What lies between the two points is a part of the tour.
use Rattle.walk_laws.proofs.OnKeptLines.FirstWalks.{one_run}
use Rattle.walk_laws.proofs.laws.one_run_per_free_piece.Goals as goal

pub returns : goal.returns
returns c = λ floor task t is_task first. one_run floor task t is_task first
