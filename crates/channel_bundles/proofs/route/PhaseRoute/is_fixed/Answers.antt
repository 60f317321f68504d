-- Answers at which mutants of this function are refused.
use Rattle.std.proofs.Common.{rules}
use Rattle.channel_bundles.proofs.route.PhaseRoute.is_fixed.Goals as goal

pub returns-then-has_checkpoint_on : goal.returns-then-has_checkpoint_on
returns-then-has_checkpoint_on c = search rules

pub returns : goal.returns
returns c = search rules
