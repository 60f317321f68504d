-- The law `checks_come_to_one` holds.
use Rattle.form_check.proofs.OneCheck.{one_check}
use Rattle.form_check.proofs.laws.checks_come_to_one.Goals as goal

pub returns : goal.returns
returns c = one_check
