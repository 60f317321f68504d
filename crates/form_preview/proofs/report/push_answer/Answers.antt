-- Answers at which mutants of this function are refused.
use Rattle.std.proofs.Common.{rules}
use Rattle.form_preview.proofs.report.push_answer.Goals as goal

pub returns-in_ok-edges-in-Committed : goal.returns-in_ok-edges-in-Committed
returns-in_ok-edges-in-Committed c = search rules
