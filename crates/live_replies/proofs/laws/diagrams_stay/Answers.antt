-- The law is a lemma of the same name.
use Rattle.live_replies.proofs.Diagrams.{diagrams_stay}
use Rattle.live_replies.proofs.laws.diagrams_stay.Goals as goal

pub returns : goal.returns
returns c = diagrams_stay
