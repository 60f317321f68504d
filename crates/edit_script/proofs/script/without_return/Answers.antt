-- Answers at which mutants of this function are refused.
use Rattle.std.proofs.Common.{rules}
use Rattle.edit_script.proofs.script.without_return.Goals as goal

pub returns-in-13 : goal.returns-in-13
returns-in-13 c = search rules
