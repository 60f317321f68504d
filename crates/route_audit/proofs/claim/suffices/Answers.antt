-- Answers at which mutants of this function are refused.
use Rattle.std.proofs.Common.{rules}
use Rattle.route_audit.proofs.claim.suffices.Goals as goal

pub returns-in-Cost : goal.returns-in-Cost
returns-in-Cost c = search rules
