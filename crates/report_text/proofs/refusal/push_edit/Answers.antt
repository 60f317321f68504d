-- Answers at which mutants of this function are refused.
use Rattle.std.proofs.Common.{arith}
use Rattle.std.proofs.lemmas.Grind.{common_steps}
use Rattle.report_text.proofs.refusal.push_edit.Goals as goal

pub returns-in-NodeInUse : goal.returns-in-NodeInUse
returns-in-NodeInUse c = grind (arith, common_steps)
