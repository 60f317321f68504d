-- Answers at which mutants of this function are refused.
use Rattle.std.proofs.Common.{rules}
use Rattle.sweep_lines.proofs.near.is_near.Goals as goal

pub returns : goal.returns
returns c = search rules
