-- The law `edits_take_back` holds.
use Rattle.scene_model.proofs.TakingBack.Restoring.{takes_back}
use Rattle.scene_model.proofs.laws.edits_take_back.Goals as goal

pub returns : goal.returns
returns c = takes_back
