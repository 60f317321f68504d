-- Answers at which mutants of this function are refused.
use Rattle.std.proofs.Common.{rules}
use Rattle.exit_rows.proofs.exit.Kept.counted_at.Goals as goal

pub returns-then-reach-self : goal.returns-then-reach-self
returns-then-reach-self c = search rules
