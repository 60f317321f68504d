-- What is loaded and not refused keeps the scene valid.
use Rattle.std.proofs.Common.{sym, ap, subst, ◌∙◌, refl}
use Rattle.scene_model.specs.Valid.{IsValid}
use Rattle.scene_model.specs.Loads.{node_refusal, with_node}
use Rattle.scene_model.proofs.Editing.Loads.{loads_keep_valid}
use Rattle.scene_store.proofs.Memory.{calm_load_node, refused}
use Rattle.scene_store.proofs.scene.Scene.load_node.Goals as goal
use Rattle.scene_store.proofs.scene.Scene.load_node.Goals.{in-Ok, in-Err}

pub returns-in-Some : goal.returns-in-Some
returns-in-Some c =
    refused (node_refusal c.args.node c.args.self.now) (with_node c.args.node c.args.self.now) c.args.self.now c.args.self.now c.in-Some.fault
    (calm_load_node c.args.node c.args.self.now) (ap (node_refusal c.args.node) (sym c.self.view_is) ∙ sym c.in-Some.ensures) refl

pub invariant_of-self : goal.invariant_of-self
invariant_of-self c =
    let free = sym c.node_refusal.ensures ∙ c.in_default.is in
    elim c.match-push_node.branch [
      | in-Ok w ↦ subst IsValid (sym w.in-Ok.ensures.ok) (loads_keep_valid.nodes c.args.node c.self.inside.parts c.requires c.self.invariant free)
      | in-Err w ↦ subst IsValid (sym w.in-Err.ensures.err) c.self.invariant
    ]
