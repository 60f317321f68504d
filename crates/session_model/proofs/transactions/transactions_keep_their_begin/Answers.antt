-- The law is proved in `Begins`.
use Rattle.session_model.proofs.Begins.{keeps_begin}
use Rattle.session_model.proofs.transactions.transactions_keep_their_begin.Goals as goal

pub returns-clause-applied : goal.returns-clause-applied
returns-clause-applied c = keeps_begin
