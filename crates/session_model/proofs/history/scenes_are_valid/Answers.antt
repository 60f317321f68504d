-- The law `scenes_are_valid` holds.
use Rattle.session_model.proofs.Turning.{are_valid}
use Rattle.session_model.proofs.history.scenes_are_valid.Goals as goal

pub returns : goal.returns
returns g c = are_valid
