-- The law `edits_keep_valid` holds.
use Rattle.scene_model.proofs.Editing.Validity.{keeps_valid}
use Rattle.scene_model.proofs.laws.edits_keep_valid.Goals as goal

pub returns : goal.returns
returns c = keeps_valid
