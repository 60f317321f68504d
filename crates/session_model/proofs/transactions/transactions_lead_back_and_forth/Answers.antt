-- The law is proved in `Begins`.
use Rattle.session_model.proofs.Begins.{back_and_forth}
use Rattle.session_model.proofs.transactions.transactions_lead_back_and_forth.Goals as goal

pub returns : goal.returns
returns c = back_and_forth
