-- Answers at which mutants of this function are refused.
use Rattle.std.proofs.Common.{rules}
use Rattle.form_make.proofs.scene.other_place.Goals as goal

pub returns-else-drawn-place-clause-place : goal.returns-else-drawn-place-clause-place
returns-else-drawn-place-clause-place c = search rules

pub returns-else-drawn-place-clause-other : goal.returns-else-drawn-place-clause-other
returns-else-drawn-place-clause-other c = search rules
