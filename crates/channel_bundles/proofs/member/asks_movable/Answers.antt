-- Answers at which mutants of this function are refused.
use Rattle.std.proofs.Common.{rules}
use Rattle.channel_bundles.proofs.member.asks_movable.Goals as goal

pub returns-then-r-s : goal.returns-then-r-s
returns-then-r-s c = search rules
