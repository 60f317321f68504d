-- The law of outcomes.
use Rattle.reroute_app.proofs.OneOutcome.{one_outcome}
use Rattle.reroute_app.proofs.one_outcome.Goals as goal

pub returns : goal.returns
returns c = one_outcome c.checks_come_to_one.ensures c.replays_come_to_one.ensures c.seeds_come_to_one.ensures c.proposals_come_to_one.ensures c.shares_come_to_one.ensures c.certificates_come_to_one.ensures.certificate c.certificates_come_to_one.ensures.audit
