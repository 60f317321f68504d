-- The choices so far are those of one end.
use Rattle.walk_model.specs.Choice.{AreChoices}
use Rattle.search_tests.proofs.choices.choices.Given as goal

abbrev pub invariant-loop-x : goal.invariant-loop-x
invariant-loop-x l = AreChoices l.choices.items
