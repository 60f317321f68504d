-- Answers at which mutants of this function are refused.
use Rattle.std.proofs.Common.{arith}
use Rattle.std.proofs.lemmas.Grind.{common_steps}
use Rattle.undo_log.proofs.log.UndoLog.go_back.Goals as goal

pub returns : goal.returns
returns c = grind (arith, common_steps)
