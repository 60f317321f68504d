-- Answers at which mutants of this function are refused.
use Rattle.std.proofs.Common.{rules}
use Rattle.reroute_c.proofs.edits.reroute_move_box.Goals as goal

pub returns-clause-call : goal.returns-clause-call
returns-clause-call c = search rules
