-- Answers at which mutants of this function are refused.
use Rattle.std.proofs.Common.{rules}
use Rattle.scene_parts.proofs.parts.Parts.pin_in_use.Goals as goal

pub returns-in_err-edge : goal.returns-in_err-edge
returns-in_err-edge c = search rules

pub returns : goal.returns
returns c = search rules
