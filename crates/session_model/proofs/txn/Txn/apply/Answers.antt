-- Answers at which mutants of this function are refused.
use Rattle.std.proofs.Common.{rules}
use Rattle.session_model.proofs.txn.Txn.apply.Goals as goal

pub returns-in_err-map_err-3-clause-err : goal.returns-in_err-map_err-3-clause-err
returns-in_err-map_err-3-clause-err c = search rules

pub returns-clause-ok : goal.returns-clause-ok
returns-clause-ok c = search rules

pub returns-in-Some-clause-edited : goal.returns-in-Some-clause-edited
returns-in-Some-clause-edited c = search rules
