-- The law `scenes_stay_valid` holds.
use Rattle.scene_model.proofs.Editing.Worlds.{stays_valid}
use Rattle.scene_model.proofs.laws.scenes_stay_valid.Goals as goal

pub returns : goal.returns
returns c = stays_valid
