-- Answers at which mutants of this function are refused.
use Rattle.std.proofs.Common.{rules}
use Rattle.proof_search.proofs.prover.scope_for.Goals as goal

pub returns-in-None : goal.returns-in-None
returns-in-None c = search rules
