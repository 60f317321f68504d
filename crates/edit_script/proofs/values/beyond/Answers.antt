-- Answers at which mutants of this function are refused.
use Rattle.std.proofs.Common.{rules}
use Rattle.edit_script.proofs.values.beyond.Goals as goal

pub returns-in-45 : goal.returns-in-45
returns-in-45 c = search rules
