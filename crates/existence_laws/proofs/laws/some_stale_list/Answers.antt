-- Each reason to search again is decided.
use Rattle.existence_laws.proofs.Answering.Stale.{some_stale_list}
use Rattle.existence_laws.proofs.laws.some_stale_list.Goals as goal

pub returns : goal.returns
returns c = some_stale_list
