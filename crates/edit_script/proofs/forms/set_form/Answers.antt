-- Answers at which mutants of this function are refused.
use Rattle.std.proofs.Common.{arith}
use Rattle.std.proofs.lemmas.Grind.{common_steps}
use Rattle.edit_script.proofs.forms.set_form.Goals as goal

pub returns : goal.returns
returns c = grind (arith, common_steps)
