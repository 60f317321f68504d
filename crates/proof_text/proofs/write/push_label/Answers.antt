-- Answers at which mutants of this function are refused.
use Rattle.std.proofs.Common.{arith}
use Rattle.std.proofs.lemmas.Grind.{common_steps}
use Rattle.proof_text.proofs.write.push_label.Goals as goal

pub returns-in_ok-push-in-None : goal.returns-in_ok-push-in-None
returns-in_ok-push-in-None c = grind (arith, common_steps)
