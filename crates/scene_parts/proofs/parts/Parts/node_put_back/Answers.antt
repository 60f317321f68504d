-- The node has a place.
use Rattle.std.proofs.Common.{sym, subst, int_eq, to_z-of_z}
use Rattle.std.specs.Prelude.{find, IsSome}
use Rattle.scene_model.specs.declared.node.Node.{Node}
use Rattle.scene_model.specs.Scene.{node_with}
use Rattle.scene_parts.proofs.parts.Parts.node_put_back.Goals as goal

pub unwrap-before-requires : goal.unwrap-before-requires
unwrap-before-requires c =
    c.place_of.ensures.found
    (subst (λ k. IsSome (find (λ (n : Node). int_eq n.id k) c.self.inside.nodes)) (sym (to_z-of_z c.ranges.id))
    (subst (λ s. IsSome (node_with s c.args.id)) (sym c.self.view_is) c.requires.there))
