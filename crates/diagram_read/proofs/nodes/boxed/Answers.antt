-- Answers at which mutants of this function are refused.
use Rattle.std.proofs.Common.{rules}
use Rattle.diagram_read.proofs.nodes.boxed.Goals as goal

pub returns : goal.returns
returns c = search rules

pub returns-in_err-x : goal.returns-in_err-x
returns-in_err-x c = search rules

pub returns-then-is_off : goal.returns-then-is_off
returns-then-is_off c = search rules
