-- The law is a lemma: `clients_kept`.
use Rattle.live_replies.proofs.Clients.{clients_kept}
use Rattle.live_replies.proofs.laws.changes_keep_clients.Goals as goal

pub returns : goal.returns
returns c = clients_kept
