-- Each rule is decided.
use Rattle.existence_laws.proofs.Auditing.Audits.{some_audit}
use Rattle.existence_laws.proofs.laws.some_audit.Goals as goal

pub returns : goal.returns
returns c = some_audit
