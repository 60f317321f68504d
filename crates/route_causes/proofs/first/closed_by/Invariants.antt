-- The stubs so far are closed.
use Rattle.std.proofs.Common.{take, All}
use Rattle.move_model.specs.Places.{HasFreeStub}
use Rattle.route_causes.proofs.first.closed_by.Given as goal

abbrev pub invariant-loop-choice : goal.invariant-loop-choice
invariant-loop-choice l = All (λ c. HasFreeStub l.solids c → ⊥) (take l.choice-index l.choices)
