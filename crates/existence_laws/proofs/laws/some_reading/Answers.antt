-- The bytes are read one by one.
use Rattle.existence_laws.proofs.Readings.{some_reading}
use Rattle.existence_laws.proofs.laws.some_reading.Goals as goal

pub returns : goal.returns
returns c = some_reading
