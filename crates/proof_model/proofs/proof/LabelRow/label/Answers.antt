-- Answers at which mutants of this function are refused.
use Rattle.std.proofs.Common.{rules}
use Rattle.proof_model.proofs.proof.LabelRow.label.Goals as goal

pub returns-in-South : goal.returns-in-South
returns-in-South c = search rules
