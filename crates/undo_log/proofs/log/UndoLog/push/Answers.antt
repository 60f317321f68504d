-- Answers at which mutants of this function are refused.
use Rattle.std.proofs.Common.{arith, rules}
use Rattle.std.proofs.lemmas.Grind.{common_steps}
use Rattle.undo_log.proofs.log.UndoLog.push.Goals as goal

pub invariant_of-self : goal.invariant_of-self
invariant_of-self c = grind (arith, common_steps)

pub returns-clause-future : goal.returns-clause-future
returns-clause-future c = search rules

pub returns-clause-oldest : goal.returns-clause-oldest
returns-clause-oldest c = search rules
