-- Answers at which mutants of this function are refused.
use Rattle.std.proofs.Common.{rules}
use Rattle.form_route.proofs.report.routed_by.Goals as goal

pub returns-in-None : goal.returns-in-None
returns-in-None c = search rules
