-- Answers at which mutants of this function are refused.
use Rattle.std.proofs.Common.{rules}
use Rattle.diagram_read.proofs.lines.find_line.Goals as goal

pub returns-in_err-graphics : goal.returns-in_err-graphics
returns-in_err-graphics c = search rules

pub returns : goal.returns
returns c = search rules
