-- The edit that is passed is the one with these values.
use Rattle.std.proofs.Common.{subst, to_z-of_z}
use Rattle.scene_model.specs.declared.edit.Edit.TheVariants.{AddVia}
use Rattle.scene_model.specs.Edits.{IsEdited}
use Rattle.scene_store.proofs.scene.Scene.add_via.Goals as goal

pub returns : goal.returns
returns c = subst (λ e. IsEdited e c.args.self.now c.edit.new.self c.edit.result) (λ i. AddVia c.args.number c.args.place (to_z-of_z c.ranges.x i) (to_z-of_z c.ranges.y i)) c.edit.ensures
