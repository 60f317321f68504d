-- Answers at which mutants of this function are refused.
use Rattle.std.proofs.Common.{rules}
use Rattle.reroute_c.proofs.edits.reroute_connect.Goals as goal

pub returns-then-fault-eq0-clause-number : goal.returns-then-fault-eq0-clause-number
returns-then-fault-eq0-clause-number c = search rules
