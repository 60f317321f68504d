-- Answers at which mutants of this function are refused.
use Rattle.std.proofs.Common.{rules}
use Rattle.gml_scene.proofs.forms.pin_of.Goals as goal

pub returns-in_err-letters_of : goal.returns-in_err-letters_of
returns-in_err-letters_of c = search rules

pub returns-in_err-push-2 : goal.returns-in_err-push-2
returns-in_err-push-2 c = search rules
