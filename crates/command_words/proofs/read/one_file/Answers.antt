-- Answers at which mutants of this function are refused.
use Rattle.std.proofs.Common.{rules, arith}
use Rattle.std.proofs.lemmas.Grind.{common_steps}
use Rattle.command_words.proofs.read.one_file.Goals as goal

pub returns-in_default : goal.returns-in_default
returns-in_default c = search rules

pub returns-in-Some-len1 : goal.returns-in-Some-len1
returns-in-Some-len1 c = grind (arith, common_steps)

pub returns : goal.returns
returns c = grind (arith, common_steps)
