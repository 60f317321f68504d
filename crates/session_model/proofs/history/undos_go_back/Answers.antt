-- The law `undos_go_back` holds.
use Rattle.session_model.proofs.Turning.{goes_back}
use Rattle.session_model.proofs.history.undos_go_back.Goals as goal

pub returns : goal.returns
returns g c = goes_back
