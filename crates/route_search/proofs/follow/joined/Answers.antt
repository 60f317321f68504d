-- Answers at which mutants of this function are refused.
use Rattle.std.proofs.Common.{rules}
use Rattle.route_search.proofs.follow.joined.Goals as goal

pub returns-else-tail-step-clause-next : goal.returns-else-tail-step-clause-next
returns-else-tail-step-clause-next c = search rules
