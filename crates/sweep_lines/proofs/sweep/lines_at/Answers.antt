-- Answers at which mutants of this function are refused.
use Rattle.std.proofs.Common.{rules}
use Rattle.sweep_lines.proofs.sweep.lines_at.Goals as goal

pub returns-in-Vertical : goal.returns-in-Vertical
returns-in-Vertical c = search rules
