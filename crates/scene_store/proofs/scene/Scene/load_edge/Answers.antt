-- What is loaded and not refused keeps the scene valid.
use Rattle.std.proofs.Common.{sym, ap, subst, ◌∙◌, refl}
use Rattle.scene_model.specs.Scene.{Scene}
use Rattle.scene_model.specs.Valid.{IsValid}
use Rattle.scene_model.specs.Loads.{edge_refusal, with_edge, IsLoadableEdge}
use Rattle.scene_model.proofs.Editing.Loads.{loads_keep_valid}
use Rattle.scene_store.proofs.Memory.{calm_load_edge, refused}
use Rattle.scene_store.proofs.scene.Scene.load_edge.Goals as goal
use Rattle.scene_store.proofs.scene.Scene.load_edge.Goals.{in-Ok, in-Err}

pub returns-in-Some : goal.returns-in-Some
returns-in-Some c =
    refused (edge_refusal c.args.edge c.args.self.now) (with_edge c.args.edge c.args.self.now) c.args.self.now c.args.self.now c.in-Some.fault
    (calm_load_edge c.args.edge c.args.self.now) (ap (edge_refusal c.args.edge) (sym c.self.view_is) ∙ sym c.in-Some.ensures) refl

pub invariant_of-self : goal.invariant_of-self
invariant_of-self c =
    let free = sym c.edge_refusal.ensures ∙ c.in_default.is in
    elim c.match-push_edge.branch [
      | in-Ok w ↦ subst IsValid (sym w.in-Ok.ensures.ok) (loads_keep_valid.edges c.args.edge c.self.inside.parts (subst (λ (s : Scene). IsLoadableEdge s c.args.edge) (sym c.self.view_is) c.requires) c.self.invariant free)
      | in-Err w ↦ subst IsValid (sym w.in-Err.ensures.err) c.self.invariant
    ]
