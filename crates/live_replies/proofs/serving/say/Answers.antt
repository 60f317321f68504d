-- Answers at which mutants of this function are refused.
use Rattle.std.proofs.Common.{rules}
use Rattle.live_replies.proofs.serving.say.Goals as goal

pub returns-clause-end : goal.returns-clause-end
returns-clause-end c = search rules
