-- Answers at which mutants of this function are refused.
use Rattle.std.proofs.Common.{rules}
use Rattle.scene_model.proofs.limits.half.Goals as goal

pub returns : goal.returns
returns c = search rules
