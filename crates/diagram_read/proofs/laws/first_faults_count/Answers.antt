-- The law is proved in `LawsOfReading`.
use Rattle.diagram_read.proofs.LawsOfReading.{first_faults_count}
use Rattle.diagram_read.proofs.laws.first_faults_count.Goals as goal

pub returns : goal.returns
returns c = first_faults_count
