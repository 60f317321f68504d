-- Answers at which mutants of this function are refused.
use Rattle.std.proofs.Common.{rules}
use Rattle.shared_paths.proofs.sharing.side_of.Goals as goal

pub returns-in-Parts-Parts-2 : goal.returns-in-Parts-Parts-2
returns-in-Parts-Parts-2 c = search rules
