-- Answers at which mutants of this function are refused.
use Rattle.std.proofs.Common.{rules, arith}
use Rattle.std.proofs.lemmas.Grind.{common_steps}
use Rattle.search_problem.proofs.queue.Queue.pop.Goals as goal

pub returns-in_err-candidate-clause-rest : goal.returns-in_err-candidate-clause-rest
returns-in_err-candidate-clause-rest g c = search rules

pub returns-in_err-candidate-clause-least : goal.returns-in_err-candidate-clause-least
returns-in_err-candidate-clause-least g c = search rules

pub returns-in_err-candidate-clause-none : goal.returns-in_err-candidate-clause-none
returns-in_err-candidate-clause-none g c = grind (arith, common_steps)

pub returns-in_err-candidate-clause-empty : goal.returns-in_err-candidate-clause-empty
returns-in_err-candidate-clause-empty g c = grind (arith, common_steps)

pub returns-clause-rest : goal.returns-clause-rest
returns-clause-rest g c = search rules

pub returns-clause-least : goal.returns-clause-least
returns-clause-least g c = grind (arith, common_steps)
