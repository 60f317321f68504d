-- The rules are decided one after the other.
use Rattle.existence_laws.proofs.Answering.Verdicts.{some_verdict}
use Rattle.existence_laws.proofs.laws.some_verdict.Goals as goal

pub returns : goal.returns
returns c = some_verdict
