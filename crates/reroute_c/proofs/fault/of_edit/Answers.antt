-- Answers at which mutants of this function are refused.
use Rattle.std.proofs.Common.{rules}
use Rattle.reroute_c.proofs.fault.of_edit.Goals as goal

pub returns-in-NodeInUse-clause-fault : goal.returns-in-NodeInUse-clause-fault
returns-in-NodeInUse-clause-fault c = search rules
