-- The law is proved in `LawsOfReading`.
use Rattle.diagram_read.proofs.LawsOfReading.{numbers_agree}
use Rattle.diagram_read.proofs.laws.numbers_agree.Goals as goal

pub returns : goal.returns
returns c = numbers_agree
