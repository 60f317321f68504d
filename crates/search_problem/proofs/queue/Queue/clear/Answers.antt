-- Answers at which mutants of this function are refused.
use Rattle.std.proofs.Common.{rules}
use Rattle.search_problem.proofs.queue.Queue.clear.Goals as goal

pub returns : goal.returns
returns g c = search rules
