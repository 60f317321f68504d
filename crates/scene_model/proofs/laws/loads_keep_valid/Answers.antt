-- The law `loads_keep_valid` holds.
use Rattle.scene_model.proofs.Editing.Loads.{loads_keep_valid}
use Rattle.scene_model.proofs.laws.loads_keep_valid.Goals as goal

pub returns : goal.returns
returns c = loads_keep_valid
