-- Answers at which mutants of this function are refused.
use Rattle.std.proofs.Common.{rules}
use Rattle.route_audit.proofs.ends.may_end_in.Goals as goal

pub returns-in-None : goal.returns-in-None
returns-in-None c = search rules

pub returns-in-Some : goal.returns-in-Some
returns-in-Some c = search rules
