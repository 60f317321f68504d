-- The law `sessions_are_worlds` holds.
use Rattle.session_model.proofs.Called.{are_worlds}
use Rattle.session_model.proofs.calls.sessions_are_worlds.Goals as goal

pub returns : goal.returns
returns c = are_worlds
