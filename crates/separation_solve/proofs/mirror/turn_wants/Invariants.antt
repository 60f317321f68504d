-- What the loop of `turn_wants` keeps.
use Rattle.std.proofs.Common.{neg_ℤ}
use Rattle.separation_solve.proofs.Lists.Turning.{IsTurned}
use Rattle.separation_solve.proofs.mirror.turn_wants.Given as goal

abbrev pub invariant-loop-index : goal.invariant-loop-index
invariant-loop-index l = IsTurned neg_ℤ l.fn.wants l.wants l.index
