-- The bytes are read line by line.
use Rattle.existence_laws.proofs.Readings.{some_proof_reading}
use Rattle.existence_laws.proofs.laws.some_proof_reading.Goals as goal

pub returns : goal.returns
returns c = some_proof_reading
