-- A fixed run is not movable.
use Rattle.nudge_tests.proofs.phases.checks.may_stand_if_movable.Goals as goal

pub returns-then-is_fixed : goal.returns-then-is_fixed
returns-then-is_fixed c = λ t way movable. absurd (movable (c.is_fixed.ensures.0 c.if-is_fixed.true))
