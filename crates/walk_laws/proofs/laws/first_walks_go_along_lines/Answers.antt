-- Each step of the tour lies in a kept line.
use Rattle.walk_laws.proofs.OnKeptLines.FirstWalks.{along}
use Rattle.walk_laws.proofs.laws.first_walks_go_along_lines.Goals as goal

pub returns : goal.returns
returns c = λ floor task t is_task on first. along floor task t is_task first on
