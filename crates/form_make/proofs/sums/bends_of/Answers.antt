-- Answers at which mutants of this function are refused.
use Rattle.std.proofs.Common.{rules}
use Rattle.form_make.proofs.sums.bends_of.Goals as goal

pub returns : goal.returns
returns c = search rules
