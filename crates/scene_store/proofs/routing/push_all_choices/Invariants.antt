-- The choices so far are those of the pins so far, after the others.
use Rattle.std.specs.Prelude.{◌≡◌, ◌++◌, take}
use Rattle.scene_model.specs.Routing.{choices_of}
use Rattle.scene_store.proofs.routing.push_all_choices.Given as goal

abbrev pub invariant-loop-pin : goal.invariant-loop-pin
invariant-loop-pin l = l.choices.items ≡ l.initial.choices.items ++ choices_of l.settings.buffer l.node (take l.pin-index l.pin-items)
