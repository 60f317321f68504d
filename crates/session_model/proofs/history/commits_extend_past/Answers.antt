-- The law `commits_extend_past` holds.
use Rattle.session_model.proofs.Turning.{extends_past}
use Rattle.session_model.proofs.history.commits_extend_past.Goals as goal

pub returns : goal.returns
returns g c = extends_past
