-- The ports of the choices of all nodes are those of each node's choices.
use Rattle.std.proofs.Common.{◌≡◌, arith, List, [], ◌∷◌, ◌++◌, map, refl, ap, ◌∙◌}
use Rattle.std.specs.List.{flat_map}
use Rattle.std.proofs.lemmas.List.{map-append, take_all}
use Rattle.walk_model.specs.declared.task.Choice.{Choice}
use Rattle.scene_model.specs.declared.node.Node.{Node}
use Rattle.scene_model.specs.Routing.{centre_pin, choices_of}
use Rattle.scene_store.proofs.routing.ports.Goals as goal

flat_of_maps : {X Y Z : Type 0} (g : Y → Z) (f : X → List Y) (xs : List X) → map g (flat_map f xs) ≡ flat_map (λ x. map g (f x)) xs
flat_of_maps g f [] = refl
flat_of_maps g f (x ∷ xs) = map-append g (f x) (flat_map f xs) ∙ ap (λ zs. map g (f x) ++ zs) (flat_of_maps g f xs)

pub returns : goal.returns
returns c =
    let items = c.deref-choice-items.result.now in
    c.loop-choice.invariant
    ∙ ap (map (λ x. x.port)) (take_all c.loop-choice.choice-index items (omega (arith, c.loop-choice-test.false)) ∙ c.deref-choice-items.ensures.value ∙ c.in_ok-choices.ensures)
    ∙ flat_of_maps (λ (x : Choice). x.port) (λ (n : Node). choices_of c.args.parts.now.settings.buffer n (centre_pin ∷ n.pins)) c.args.parts.now.nodes
