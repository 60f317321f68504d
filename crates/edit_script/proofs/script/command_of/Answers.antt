-- Answers at which mutants of this function are refused.
use Rattle.std.proofs.Common.{rules}
use Rattle.edit_script.proofs.script.command_of.Goals as goal

pub returns : goal.returns
returns c = search rules
