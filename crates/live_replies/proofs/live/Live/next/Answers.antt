-- Answers at which mutants of this function are refused.
use Rattle.std.proofs.Common.{rules}
use Rattle.live_replies.proofs.live.Live.next.Goals as goal

pub returns : goal.returns
returns c = search rules
