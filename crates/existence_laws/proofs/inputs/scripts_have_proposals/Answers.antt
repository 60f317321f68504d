-- The commands are read one by one.
use Rattle.existence_laws.proofs.Proposing.{scripts_have_proposals}
use Rattle.existence_laws.proofs.inputs.scripts_have_proposals.Goals as goal

pub returns : goal.returns
returns c = scripts_have_proposals
