-- Answers at which mutants of this function are refused.
use Rattle.std.proofs.Common.{rules}
use Rattle.side_touches.proofs.extent.Extent.join.Goals as goal

pub returns : goal.returns
returns c = search rules
