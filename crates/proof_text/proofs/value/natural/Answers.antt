-- Answers at which mutants of this function are refused.
use Rattle.std.proofs.Common.{rules}
use Rattle.proof_text.proofs.value.natural.Goals as goal

pub returns-in_err-read_whole-in-49-to-57 : goal.returns-in_err-read_whole-in-49-to-57
returns-in_err-read_whole-in-49-to-57 c = search rules

pub returns-in_ok-read_whole-in-49-to-57 : goal.returns-in_ok-read_whole-in-49-to-57
returns-in_ok-read_whole-in-49-to-57 c = search rules
