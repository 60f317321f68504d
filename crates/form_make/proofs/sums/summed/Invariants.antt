-- The sums over the answers so far.
use Rattle.form_make.proofs.Summing.{SumsSoFar}
use Rattle.form_make.proofs.sums.summed.Given as goal

abbrev pub invariant-loop-answer : goal.invariant-loop-answer
invariant-loop-answer l = SumsSoFar l.answers l.searched l.answer-index l.summary
