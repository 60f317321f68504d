-- Answers at which mutants of this function are refused.
use Rattle.std.proofs.Common.{rules}
use Rattle.fixed_milli.proofs.split.split_fraction.Goals as goal

pub returns-in_default : goal.returns-in_default
returns-in_default c = search rules
