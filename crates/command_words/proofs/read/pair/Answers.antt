-- Answers at which mutants of this function are refused.
use Rattle.std.proofs.Common.{arith}
use Rattle.std.proofs.lemmas.Grind.{common_steps}
use Rattle.command_words.proofs.read.pair.Goals as goal

pub returns-in-Some-len2 : goal.returns-in-Some-len2
returns-in-Some-len2 c = grind (arith, common_steps)
