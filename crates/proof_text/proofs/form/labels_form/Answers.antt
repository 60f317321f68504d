-- Answers at which mutants of this function are refused.
use Rattle.std.proofs.Common.{arith}
use Rattle.std.proofs.lemmas.Grind.{common_steps}
use Rattle.proof_text.proofs.form.labels_form.Goals as goal

pub returns-in_err-label : goal.returns-in_err-label
returns-in_err-label c = grind (arith, common_steps)

pub returns-in_err-label-2 : goal.returns-in_err-label-2
returns-in_err-label-2 c = grind (arith, common_steps)

pub returns-in_err-label-4 : goal.returns-in_err-label-4
returns-in_err-label-4 c = grind (arith, common_steps)

pub returns : goal.returns
returns c = grind (arith, common_steps)
