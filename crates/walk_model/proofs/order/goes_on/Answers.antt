-- Answers at which mutants of this function are refused.
use Rattle.std.proofs.Common.{rules}
use Rattle.walk_model.proofs.order.goes_on.Goals as goal

pub returns : goal.returns
returns c = search rules
