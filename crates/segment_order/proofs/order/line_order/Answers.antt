-- Answers at which mutants of this function are refused.
use Rattle.std.proofs.Common.{rules}
use Rattle.segment_order.proofs.order.line_order.Goals as goal

pub returns : goal.returns
returns c = search rules
