-- Answers at which mutants of this function are refused.
use Rattle.std.proofs.Common.{rules}
use Rattle.exit_spread.proofs.held.held_to.Goals as goal

pub returns-in-West-East : goal.returns-in-West-East
returns-in-West-East c = search rules
