-- The law that a line has one verdict at most.
use Rattle.route_check.proofs.OneVerdict.Verdicts.{one_verdict}
use Rattle.route_check.proofs.verdict.one_verdict.Goals as goal

pub returns : goal.returns
returns c = one_verdict
