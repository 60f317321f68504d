-- The law that bytes are read in one way.
use Rattle.gml_text.proofs.Parsing.{reads_once}
use Rattle.gml_text.proofs.laws.read_once.Goals as goal

pub returns : goal.returns
returns c = reads_once
