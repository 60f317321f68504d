-- What goes down at each call of `greatest_common_divisor`.
use Rattle.separation_solve.proofs.fraction.+greatest_common_divisor.Given as goal

abbrev pub decreases-greatest_common_divisor : goal.decreases-greatest_common_divisor
decreases-greatest_common_divisor l = l.b
