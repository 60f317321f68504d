-- None of the solids so far closes the stub.
use Rattle.std.proofs.Common.{take, All}
use Rattle.route_causes.specs.Causes.{Closes}
use Rattle.route_causes.proofs.first.first_to_close.Given as goal

abbrev pub invariant-loop-solid : goal.invariant-loop-solid
invariant-loop-solid l = All (λ s. Closes l.choice s → ⊥) (take l.solid-index l.solids)
