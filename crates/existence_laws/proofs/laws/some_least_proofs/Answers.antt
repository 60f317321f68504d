-- Each place has a row, if a walk comes there.
use Rattle.existence_laws.proofs.LeastLabels.Labelling.{some_least_proofs}
use Rattle.existence_laws.proofs.laws.some_least_proofs.Goals as goal

pub returns : goal.returns
returns c = some_least_proofs
