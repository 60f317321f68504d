-- Answers at which mutants of this function are refused.
use Rattle.std.proofs.Common.{rules}
use Rattle.segment_order.proofs.ray.Entry.compare.Goals as goal

pub returns-in-Far-Far : goal.returns-in-Far-Far
returns-in-Far-Far c = search rules
