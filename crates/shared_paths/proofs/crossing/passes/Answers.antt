-- Answers at which mutants of this function are refused.
use Rattle.std.proofs.Common.{rules}
use Rattle.shared_paths.proofs.crossing.passes.Goals as goal

pub returns-then-run-at : goal.returns-then-run-at
returns-then-run-at c = search rules
