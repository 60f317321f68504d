-- The law that bytes are read in one way.
use Rattle.fixed_milli.proofs.Reading.{read_same}
use Rattle.fixed_milli.proofs.laws.read_once.Goals as goal

pub returns : goal.returns
returns c = read_same
