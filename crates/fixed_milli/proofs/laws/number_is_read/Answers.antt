-- The law that a number's form is what is read.
use Rattle.fixed_milli.proofs.Computing.{number_read, read_number}
use Rattle.fixed_milli.proofs.laws.number_is_read.Goals as goal

pub returns : goal.returns
returns c = λ bytes. (number_read bytes, read_number bytes)
