-- Answers at which mutants of this function are refused.
use Rattle.std.proofs.Common.{arith}
use Rattle.std.proofs.lemmas.Grind.{common_steps}
use Rattle.shared_paths.proofs.pair.Routes.outward.Goals as goal

pub returns-then-ahead : goal.returns-then-ahead
returns-then-ahead c = grind (arith, common_steps)

pub returns-else-ahead : goal.returns-else-ahead
returns-else-ahead c = grind (arith, common_steps)
