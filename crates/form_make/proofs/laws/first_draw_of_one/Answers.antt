-- The draw is computed.
use Rattle.std.proofs.Common.{refl}
use Rattle.form_make.specs.Draws.{state_after}
use Rattle.form_make.proofs.laws.first_draw_of_one.Goals as goal

pub returns-clause-state : goal.returns-clause-state
unfolding state_after
returns-clause-state c = refl

pub returns-clause-quotient : goal.returns-clause-quotient
unfolding state_after
returns-clause-quotient c = refl

pub returns-clause-draw : goal.returns-clause-draw
unfolding state_after
returns-clause-draw c = refl
