-- The edit that is passed is the one with these values.
use Rattle.std.proofs.Common.{subst, to_z-of_z}
use Rattle.scene_model.specs.declared.edit.Edit.TheVariants.{AddPin}
use Rattle.scene_model.specs.Edits.{IsEdited}
use Rattle.scene_store.proofs.scene.Scene.add_pin.Goals as goal

pub returns : goal.returns
returns c = subst (λ e. IsEdited e c.args.self.now c.edit.new.self c.edit.result) (λ i. AddPin (to_z-of_z c.ranges.id i) c.args.class (to_z-of_z c.ranges.dx i) (to_z-of_z c.ranges.dy i) c.args.dirs) c.edit.ensures
