-- Answers at which mutants of this function are refused.
use Rattle.std.proofs.Common.{rules}
use Rattle.report_text.proofs.finding.push_finding.Goals as goal

pub returns-in-Loop : goal.returns-in-Loop
returns-in-Loop c = search rules
