-- Answers at which mutants of this function are refused.
use Rattle.std.proofs.Common.{rules}
use Rattle.scene_model.proofs.pin.Dirs.with_letter.Goals as goal

pub returns-in-87 : goal.returns-in-87
returns-in-87 c = search rules
