-- The choices so far are those of the pins so far that have the class.
use Rattle.std.specs.Prelude.{◌≡◌, ◌==◌, take, filter}
use Rattle.scene_model.specs.Routing.{choices_of}
use Rattle.scene_store.proofs.routing.choices_of_class.Given as goal

abbrev pub invariant-loop-pin : goal.invariant-loop-pin
invariant-loop-pin l = l.choices.items ≡ choices_of l.settings.buffer l.node (filter (λ p. p.class == l.class) (take l.pin-index l.pin-items))
