-- Answers at which mutants of this function are refused.
use Rattle.std.proofs.Common.{rules}
use Rattle.shared_paths.proofs.start.Start.of.Goals as goal

pub returns-then-one-other : goal.returns-then-one-other
returns-then-one-other c = search rules
