-- Answers at which mutants of this function are refused.
use Rattle.std.proofs.Common.{rules}
use Rattle.move_model.proofs.ahead.bends_between.Goals as goal

pub returns-then-eq-clause-bends : goal.returns-then-eq-clause-bends
returns-then-eq-clause-bends c = search rules
