-- The ports so far are among the anchors.
use Rattle.std.proofs.Common.{All, Contains, take}
use Rattle.walk_model.specs.declared.task.Choice.{Choice}
use Rattle.search_tests.proofs.floors.are_ports_among.Given as goal

abbrev pub invariant-loop-choice : goal.invariant-loop-choice
invariant-loop-choice l = All (λ (c : Choice). Contains l.anchors c.port) (take l.choice-index l.choices)
