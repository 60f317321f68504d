-- The edit that is passed is the one with these values.
use Rattle.std.proofs.Common.{subst, to_z-of_z}
use Rattle.scene_model.specs.declared.edit.Edit.TheVariants.{SizeNode}
use Rattle.scene_model.specs.Edits.{IsEdited}
use Rattle.scene_store.proofs.scene.Scene.size_node.Goals as goal

pub returns : goal.returns
returns c = subst (λ e. IsEdited e c.args.self.now c.edit.new.self c.edit.result) (λ i. SizeNode (to_z-of_z c.ranges.id i) (to_z-of_z c.ranges.w i) (to_z-of_z c.ranges.h i)) c.edit.ensures
