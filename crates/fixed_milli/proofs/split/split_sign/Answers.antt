-- Answers at which mutants of this function are refused.
use Rattle.std.proofs.Common.{arith}
use Rattle.std.proofs.lemmas.Grind.{common_steps}
use Rattle.fixed_milli.proofs.split.split_sign.Goals as goal

pub returns-in-43 : goal.returns-in-43
returns-in-43 c = grind (arith, common_steps)
