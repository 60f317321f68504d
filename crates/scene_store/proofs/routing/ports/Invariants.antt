-- The ports so far are those of the choices so far.
use Rattle.std.specs.Prelude.{◌≡◌, take, map}
use Rattle.scene_store.proofs.routing.ports.Given as goal

abbrev pub invariant-loop-choice : goal.invariant-loop-choice
invariant-loop-choice l = l.ports.items ≡ map (λ c. c.port) (take l.choice-index l.choice-items)
