-- The endings so far are those of the first choices.
use Rattle.search_problem.specs.Ends.{AreEndings}
use Rattle.search_problem.proofs.ends.endings.Given as goal

abbrev pub invariant-loop-number : goal.invariant-loop-number
invariant-loop-number l = AreEndings l.sorted.solids.items l.arena l.task l.number l.endings.items
