-- Answers at which mutants of this function are refused.
use Rattle.std.proofs.Common.{arith}
use Rattle.std.proofs.lemmas.Grind.{common_steps}
use Rattle.scene_parts.proofs.parts.Parts.refusal_of_add_via.Goals as goal

pub returns-then-via_count-ge256 : goal.returns-then-via_count-ge256
returns-then-via_count-ge256 c = grind (arith, common_steps)
