-- Answers at which mutants of this function are refused.
use Rattle.std.proofs.Common.{rules}
use Rattle.session_model.proofs.txn.Txn.begin.Goals as goal

pub returns : goal.returns
returns c = search rules
