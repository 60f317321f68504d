-- Answers at which mutants of this function are refused.
use Rattle.std.proofs.Common.{rules}
use Rattle.shared_paths.proofs.crossing.crosses.Goals as goal

pub returns-then-passes : goal.returns-then-passes
returns-then-passes c = search rules

pub returns-else-passes : goal.returns-else-passes
returns-else-passes c = search rules
