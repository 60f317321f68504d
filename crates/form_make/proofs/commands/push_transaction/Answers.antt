-- Answers at which mutants of this function are refused.
use Rattle.std.proofs.Common.{arith}
use Rattle.std.proofs.lemmas.Grind.{common_steps}
use Rattle.form_make.proofs.commands.push_transaction.Goals as goal

pub returns : goal.returns
returns c = grind (arith, common_steps)
