-- Answers at which mutants of this function are refused.
use Rattle.std.proofs.Common.{rules}
use Rattle.scene_parts.proofs.parts.Parts.new.Goals as goal

pub returns : goal.returns
returns c = search rules
