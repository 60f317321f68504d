-- Answers at which mutants of this function are refused.
use Rattle.std.proofs.Common.{rules}
use Rattle.side_touches.proofs.extent.Extent.is_met_by.Goals as goal

pub returns-then-line-self : goal.returns-then-line-self
returns-then-line-self c = search rules

pub returns-else-line-self : goal.returns-else-line-self
returns-else-line-self c = search rules
