-- The law `commits_are_given_back` holds.
use Rattle.session_model.proofs.Called.{are_given_back}
use Rattle.session_model.proofs.calls.commits_are_given_back.Goals as goal

pub returns : goal.returns
returns c = are_given_back
