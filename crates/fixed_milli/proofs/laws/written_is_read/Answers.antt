-- The law that what is written is read again.
use Rattle.fixed_milli.proofs.Reading.{text_reads}
use Rattle.fixed_milli.proofs.laws.written_is_read.Goals as goal

pub returns : goal.returns
returns c = text_reads
