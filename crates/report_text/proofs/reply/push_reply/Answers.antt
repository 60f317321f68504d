-- Answers at which mutants of this function are refused.
use Rattle.std.proofs.Common.{rules}
use Rattle.report_text.proofs.reply.push_reply.Goals as goal

pub returns-in-Searched : goal.returns-in-Searched
returns-in-Searched c = search rules

pub returns-in-Searched-2 : goal.returns-in-Searched-2
returns-in-Searched-2 c = search rules
