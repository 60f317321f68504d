-- The goals of `greatest_common_divisor` that the check leaves.
use Rattle.separation_solve.proofs.LightFractions.Fractions.{divisor_of_zero, divisor_of_rest}
use Rattle.separation_solve.proofs.fraction.+greatest_common_divisor.Goals as goal

pub returns-then-b-eq0 : goal.returns-then-b-eq0
returns-then-b-eq0 t c = divisor_of_zero _ _ c.if-b-eq0.true

pub returns-else-b-eq0 : goal.returns-else-b-eq0
returns-else-b-eq0 t c = divisor_of_rest _ _ _ c.greatest_common_divisor.ensures
