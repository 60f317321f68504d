-- The entries so far are those of the first choices.
use Rattle.search_problem.specs.Ends.{AreEntries}
use Rattle.search_problem.proofs.ends.entries.Given as goal

abbrev pub invariant-loop-number : goal.invariant-loop-number
invariant-loop-number l = AreEntries l.sorted.solids.items l.arena l.task l.number l.entries.items
