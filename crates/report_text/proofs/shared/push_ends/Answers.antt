-- Answers at which mutants of this function are refused.
use Rattle.std.proofs.Common.{arith}
use Rattle.std.proofs.lemmas.Grind.{common_steps}
use Rattle.report_text.proofs.shared.push_ends.Goals as goal

pub returns : goal.returns
returns c = grind (arith, common_steps)
