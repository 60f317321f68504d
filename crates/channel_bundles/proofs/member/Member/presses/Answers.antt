-- Answers at which mutants of this function are refused.
use Rattle.std.proofs.Common.{rules}
use Rattle.channel_bundles.proofs.member.Member.presses.Goals as goal

pub returns : goal.returns
returns c = search rules
