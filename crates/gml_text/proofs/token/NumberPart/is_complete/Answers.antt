-- Answers at which mutants of this function are refused.
use Rattle.std.proofs.Common.{rules}
use Rattle.gml_text.proofs.token.NumberPart.is_complete.Goals as goal

pub returns-in-Whole : goal.returns-in-Whole
returns-in-Whole c = search rules
