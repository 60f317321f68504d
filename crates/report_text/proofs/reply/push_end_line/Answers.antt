-- Answers at which mutants of this function are refused.
use Rattle.std.proofs.Common.{rules}
use Rattle.report_text.proofs.reply.push_end_line.Goals as goal

pub returns-clause-ok : goal.returns-clause-ok
returns-clause-ok c = search rules

pub returns-in_err-push_refusal-clause-err : goal.returns-in_err-push_refusal-clause-err
returns-in_err-push_refusal-clause-err c = search rules

pub returns-in_err-push-clause-err : goal.returns-in_err-push-clause-err
returns-in_err-push-clause-err c = search rules

pub returns-clause-err : goal.returns-clause-err
returns-clause-err c = search rules
