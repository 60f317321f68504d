-- Answers at which mutants of this function are refused.
use Rattle.std.proofs.Common.{rules}
use Rattle.side_touches.proofs.touches.reach.Goals as goal

pub returns-in-North-clause-value : goal.returns-in-North-clause-value
returns-in-North-clause-value c = search rules
