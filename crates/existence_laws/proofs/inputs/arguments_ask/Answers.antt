-- The arguments are read one by one.
use Rattle.existence_laws.proofs.Arguing.{arguments_ask}
use Rattle.existence_laws.proofs.inputs.arguments_ask.Goals as goal

pub returns : goal.returns
returns c = arguments_ask
