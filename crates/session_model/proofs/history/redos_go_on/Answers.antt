-- The law `redos_go_on` holds.
use Rattle.session_model.proofs.Turning.{goes_on}
use Rattle.session_model.proofs.history.redos_go_on.Goals as goal

pub returns : goal.returns
returns g c = goes_on
