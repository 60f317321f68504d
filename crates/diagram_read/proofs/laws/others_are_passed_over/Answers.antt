-- The law is proved in `LawsOfReading`.
use Rattle.diagram_read.proofs.LawsOfReading.{others_are_passed_over}
use Rattle.diagram_read.proofs.laws.others_are_passed_over.Goals as goal

pub returns : goal.returns
returns c = others_are_passed_over
