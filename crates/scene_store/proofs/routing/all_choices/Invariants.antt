-- The choices so far are those of the nodes so far.
use Rattle.std.specs.Prelude.{◌≡◌, ◌∷◌, take}
use Rattle.std.specs.List.{flat_map}
use Rattle.scene_model.specs.Routing.{centre_pin, choices_of}
use Rattle.scene_store.proofs.routing.all_choices.Given as goal

abbrev pub invariant-loop-node : goal.invariant-loop-node
invariant-loop-node l = l.choices.items ≡ flat_map (λ n. choices_of l.parts.settings.buffer n (centre_pin ∷ n.pins)) (take l.node-index l.node-items)
