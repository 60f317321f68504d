-- Answers at which mutants of this function are refused.
use Rattle.std.proofs.Common.{rules}
use Rattle.exit_rows.proofs.exit.Kept.goes_on_as.Goals as goal

pub returns : goal.returns
returns c = search rules
