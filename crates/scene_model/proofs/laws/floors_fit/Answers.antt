-- The law `floors_fit` holds.
use Rattle.scene_model.proofs.ForRouting.Floors.{floors_fit}
use Rattle.scene_model.proofs.laws.floors_fit.Goals as goal

pub returns : goal.returns
returns c = floors_fit
