-- Answers at which mutants of this function are refused.
use Rattle.std.proofs.Common.{rules}
use Rattle.form_preview.proofs.script.report.Goals as goal

pub returns : goal.returns
returns c = search rules
