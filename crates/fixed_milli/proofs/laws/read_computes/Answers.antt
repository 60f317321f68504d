-- The law that the function gives what the bytes are read as.
use Rattle.fixed_milli.proofs.Computing.{reads_computed}
use Rattle.fixed_milli.proofs.laws.read_computes.Goals as goal

pub returns : goal.returns
returns c = reads_computed
