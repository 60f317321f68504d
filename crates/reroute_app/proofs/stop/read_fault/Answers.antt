-- Answers at which mutants of this function are refused.
use Rattle.std.proofs.Common.{rules}
use Rattle.reroute_app.proofs.stop.read_fault.Goals as goal

pub returns : goal.returns
returns c = search rules
